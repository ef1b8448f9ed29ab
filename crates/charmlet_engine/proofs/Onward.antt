-- Later cores of one store.
use Rattle.std.proofs.Common.{◌≡◌, ◌≢◌, ◌⊎◌, inl, inr, ⊎_elim, ℕ, ◌+◌, ◌≤◌, List, [], ◌∷◌, ◌++◌, length, refl, sym, ap, subst, ◌∙◌, arith, append_assoc, true, false}
use Rattle.std.proofs.lemmas.List.{append-nil}
use Rattle.charmlet_model.specs.declared.event.Event.{Event}
use Rattle.charmlet_model.specs.declared.refusal.Refusal.{Refusal}
use Rattle.charmlet_model.specs.declared.refusal.Refusal.TheVariants as refusals
use Rattle.charmlet_model.specs.declared.step.Step.{Step}
use Rattle.charmlet_model.specs.declared.step.Answer.{Answer}
use Rattle.charmlet_model.specs.Core.{Core, Flush, Checkpoint, Blanks, Stepped, Steps, durable_world, halted_core, next_core, present}
use Rattle.charmlet_model.specs.World.{World}
use Rattle.charmlet_persist.specs.Writes.Quiet.{Quiet}
use Rattle.charmlet_recovery.specs.Outcomes.{IsLawful}
use Rattle.charmlet_recovery.proofs.Outcomes.{kept_is_lawful, lawful_grows}
use Rattle.charmlet_disk.specs.Disk.{faults_after}
use Rattle.charmlet_disk.specs.File.{CrashBytes}
use Rattle.charmlet_recovery.proofs.Stored.{stored_is_recovered}
use Rattle.charmlet_persist.specs.Writes.Rest.{HasOldOrSealed, keeps_durable}
use Rattle.charmlet_delivery.proofs.Places.{stepped_core}
use Rattle.charmlet_engine.specs.Outcomes.{AreFlushedAnyway, IsOldOrImage, Onward, ends_with_image, faults_of_both_calls, is_image, is_lawful_since, is_no_fault, not_device}

pub onward_self : (core : Core) → Onward core core
onward_self core = record { more = []; grows = sym (append-nil core.history); opening = refl; before = refl; no_fewer = omega arith }

pub onward_quiet : (old new : Core) → Quiet old new → Onward old new
onward_quiet old new quiet = record { more = quiet.more; grows = quiet.grows; opening = quiet.opening; before = quiet.before; no_fewer = (let same = quiet.durable in omega arith) }

pub onward_after : (first mid last : Core) → Onward first mid → Onward mid last → Onward first last
onward_after first mid last a b = record {
  more = a.more ++ b.more;
  grows = b.grows ∙ ap (λ (l : List Event). l ++ b.more) a.grows ∙ append_assoc first.history a.more b.more;
  opening = b.opening ∙ a.opening;
  before = b.before ∙ a.before;
  no_fewer = (let p = a.no_fewer in let q = b.no_fewer in omega arith);
}

same_history : (core : Core) (new : Core) → new.history ≡ core.history → new.opening ≡ core.opening → new.before ≡ core.before → core.durable ≤ new.durable → Onward core new
same_history core new grows opening before no_fewer = record { more = []; grows = grows ∙ sym (append-nil core.history); opening = opening; before = before; no_fewer = no_fewer }

pub onward_flush : (core : Core) (blanks : Blanks) (last : Stepped) → core.durable ≤ length core.history → Steps core blanks Flush last → Onward core last.core
onward_flush core blanks last within s =
    stepped_core (Onward core) core blanks Flush (onward_self core) (same_history core (halted_core core) refl refl refl (omega arith)) (same_history core (next_core core Flush) refl refl refl within) last s

pub onward_checkpoint : (core : Core) (blanks : Blanks) (last : Stepped) → core.durable ≤ length core.history → Steps core blanks Checkpoint last → Onward core last.core
onward_checkpoint core blanks last within s =
    stepped_core (Onward core) core blanks Checkpoint (onward_self core) (same_history core (halted_core core) refl refl refl (omega arith)) (same_history core (next_core core Checkpoint) refl refl refl within) last s

-- what is lawful stays so
pub lawful_onward : (old new : Core) → Onward old new → (durable fewer : ℕ) → fewer ≤ durable → (o : CrashBytes) → IsLawful old.opening old.before old.history durable o → IsLawful new.opening new.before new.history fewer o
lawful_onward old new on durable fewer less o lawful =
    subst (λ (w : World). IsLawful w new.before new.history fewer o) (sym on.opening)
    (subst (λ (n : ℕ). IsLawful old.opening n new.history fewer o) (sym on.before)
    (subst (λ (l : List Event). IsLawful old.opening old.before l fewer o) (sym on.grows) (lawful_grows old.opening old.before old.history on.more durable fewer o less lawful)))

-- and what is kept becomes it
pub kept_onward : (old new : Core) → Onward old new → (o : CrashBytes) → keeps_durable old o → is_lawful_since old new o
kept_onward old new on o keeps = lawful_onward old new on old.durable old.durable (omega arith) o (kept_is_lawful old.opening old.before old.history old.durable o keeps)

-- what a checkpoint stores is recovered
pub old_or_image : (core : Core) (o : CrashBytes) → HasOldOrSealed core o → IsOldOrImage core o
old_or_image core o stored =
    ⊎_elim (λ old. inl (stored_is_recovered o (durable_world core) (core.before + core.durable) core.generation old))
    (λ new. inr (stored_is_recovered o (present core) (core.before + length core.history) (core.generation + 1) new)) stored

-- no flush of steps lacks memory, and none of others after them
pub flushed_join : (steps more : List Step) (answers others : List Answer) → AreFlushedAnyway steps answers → AreFlushedAnyway more others → AreFlushedAnyway (steps ++ more) (answers ++ others)
flushed_join [] more [] others so rest = rest
flushed_join [] more (answer ∷ answers) others so rest = absurd so
flushed_join (step ∷ steps) more [] others so rest = absurd so
flushed_join (step ∷ steps) more (answer ∷ answers) others so rest = (so.0, flushed_join steps more answers others so.1 rest)

-- one answer more
pub faults_more : (answers : List Answer) (answer : Answer) (faults : ℕ) → faults_of_both_calls (answers ++ answer ∷ []) faults ≡ faults_after (is_no_fault answer) (faults_of_both_calls answers faults)
faults_more [] answer faults = refl
faults_more (first ∷ answers) answer faults = faults_more answers answer (faults_after (is_no_fault first) faults)

-- the last answer of all
pub ends_more : (answers : List Answer) (answer : Answer) → ends_with_image (answers ++ answer ∷ []) ≡ is_image answer
ends_more [] answer = refl
ends_more (first ∷ []) answer = refl
ends_more (first ∷ next ∷ answers) answer = ends_more (next ∷ answers) answer

-- a refusal that isn't the device's
pub apart : (refusal : Refusal) → not_device refusal ≡ true → refusal ≢ refusals.Device
apart refusal other is = (let no : false ≡ true = sym (ap not_device is) ∙ other in cc)

-- each is one or the other
pub device_or_not : (refusal : Refusal) → (refusal ≡ refusals.Device) ⊎ (refusal ≢ refusals.Device)
device_or_not refusals.Device = inl refl
device_or_not refusal = inr (apart refusal refl)
