-- What a crash of an engine's disk may leave.
use Rattle.std.specs.Prelude.{◌≡◌, ◌≢◌, ◌⊎◌, ◌≤◌, ◌+◌, ◌++◌, ℕ, Bool, true, false, List, [], ◌∷◌, length}
use Rattle.charmlet_model.specs.declared.event.Event.{Event}
use Rattle.charmlet_model.specs.declared.refusal.Refusal.{Refusal}
use Rattle.charmlet_model.specs.declared.refusal.Refusal.TheVariants.{Device, Memory}
use Rattle.charmlet_model.specs.declared.step.Step.{Step}
use Rattle.charmlet_model.specs.declared.step.Step.TheVariants.{Flush}
use Rattle.charmlet_model.specs.declared.step.Answer.{Answer}
use Rattle.charmlet_model.specs.declared.step.Answer.TheVariants.{Checkpointed, Flushed, Refused}
use Rattle.charmlet_model.specs.Core.{Core, durable_world, present}
use Rattle.charmlet_model.specs.Sound.{new_world}
use Rattle.charmlet_record.specs.Reading.{Kinds}
use Rattle.charmlet_recovery.specs.Outcomes.{IsLawful}
use Rattle.charmlet_recovery.specs.Recovered.{Found, Nothing, recovered}
use Rattle.charmlet_disk.specs.Disk.{faults_after}
use Rattle.charmlet_disk.specs.File.{CrashBytes}

-- the second core is a later one of the same store: its history goes on, and no fewer events are
-- durable
pub record Onward (old new : Core) : Type 0 where
  pub more : List Event
  pub grows : new.history ≡ old.history ++ more
  pub opening : new.opening ≡ old.opening
  pub before : new.before ≡ old.before
  pub no_fewer : old.durable ≤ new.durable

-- the files recover to the world after some of the history of the second core, with all that was
-- durable at the first among it
abbrev pub is_lawful_since : Core → Core → CrashBytes → Type 0
is_lawful_since old new = IsLawful new.opening new.before new.history old.durable

-- with all that is durable now
abbrev pub is_lawful_now : Core → CrashBytes → Type 0
is_lawful_now core = is_lawful_since core core

-- the files recover to nothing, or to the world with these arrays in which nothing has happened, at
-- no events and generation 1
abbrev pub IsNothingOrNew : Kinds → CrashBytes → Type 0
IsNothingOrNew kinds outcome = (recovered outcome ≡ Nothing)
    ⊎ (recovered outcome ≡ Found (new_world kinds) 0 1)

-- the files recover to the world after the durable events, at its generation, or to the present
-- world, at the next
abbrev pub IsOldOrImage : Core → CrashBytes → Type 0
IsOldOrImage core outcome =
    (recovered outcome ≡ Found (durable_world core) (core.before + core.durable) core.generation)
    ⊎ (recovered outcome
    ≡ Found (present core) (core.before + length core.history) (core.generation + 1))

-- a flush isn't refused when out of memory
abbrev pub IsFlushedAnyway : Step → Answer → Type 0
IsFlushedAnyway step answer = step ≡ Flush → answer ≢ Refused Memory

-- none of these steps, which were answered so, is a flush that was
abbrev pub AreFlushedAnyway : List Step → List Answer → Type 0
AreFlushedAnyway [] [] = Unit {0}
AreFlushedAnyway (step ∷ steps) (answer ∷ answers) = IsFlushedAnyway step answer
    × AreFlushedAnyway steps answers
AreFlushedAnyway _ _ = ⊥

-- the refusal doesn't say that the device failed
abbrev pub not_device : Refusal → Bool
not_device Device = false
not_device _ = true

-- nor does the answer
abbrev pub is_no_fault : Answer → Bool
is_no_fault (Refused refusal) = not_device refusal
is_no_fault _ = true

-- the answer says that an image was written
abbrev pub is_image : Answer → Bool
is_image (Checkpointed generation) = true
is_image _ = false

-- nothing was written: the step was refused, and not since the device failed, or it writes nothing
abbrev pub is_still : Answer → Bool
is_still (Refused refusal) = not_device refusal
is_still (Flushed durable) = false
is_still (Checkpointed generation) = false
is_still _ = true

-- the last answer says that an image was written
abbrev pub ends_with_image : List Answer → Bool
ends_with_image [] = false
ends_with_image (answer ∷ []) = is_image answer
ends_with_image (answer ∷ next ∷ answers) = ends_with_image (next ∷ answers)

-- how often the disk has failed after these answers: once more for each that says so
abbrev pub faults_of_both_calls : List Answer → ℕ → ℕ
faults_of_both_calls [] faults = faults
faults_of_both_calls (answer ∷ answers) faults =
    faults_of_both_calls answers (faults_after (is_no_fault answer) faults)
