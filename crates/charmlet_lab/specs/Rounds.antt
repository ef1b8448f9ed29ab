-- What a run over a disk that may fail leaves.
use Rattle.std.specs.Prelude.{◌≡◌, ◌⊎◌, ◌≤◌, ⊤, ℕ, false, not, List, [], length, Option, Some, None, IfSome, IsSome, unwrap_or}
use Rattle.charmlet_model.specs.declared.event.Event.{Event}
use Rattle.charmlet_model.specs.declared.half.Half.TheVariants.{Zero, One}
use Rattle.charmlet_model.specs.declared.refusal.Refusal.{Refusal}
use Rattle.charmlet_model.specs.declared.refusal.Refusal.TheVariants.{AlreadyHere, BadPes, BlanksWanted, Memory}
use Rattle.charmlet_model.specs.Core.{Blanks}
use Rattle.charmlet_model.specs.Manifest.{manifest_of}
use Rattle.charmlet_model.specs.Sound.{new_world}
use Rattle.charmlet_model.specs.World.{IsLegal}
use Rattle.charmlet_record.specs.Reading.{Kinds}
use Rattle.charmlet_image.specs.Spelled.{IsClosed}
use Rattle.charmlet_recovery.specs.Outcomes.{IsLawful}
use Rattle.charmlet_recovery.specs.RestartLaws.{IsLeastShort}
use Rattle.charmlet_disk.specs.declared.disk.Disk as disks
use Rattle.charmlet_disk.specs.Disk.{faults_after}
use Rattle.charmlet_disk.specs.File.{MayLeave, CrashBytes}
use Rattle.charmlet_halves.specs.Bytes.{IsOpen}
use Rattle.charmlet_locate.specs.Locations.{is_processor_count}
use Rattle.charmlet_script.specs.Script.{Contents, blanks_of, pairs_of, processors_of}
use Rattle.charmlet_engine.specs.Engine.{EngineShown, core_of}
use Rattle.charmlet_engine.specs.Outcomes.{IsNothingOrNew}
use Rattle.charmlet_lab.specs.declared.round.Round.{Round}

-- the script's arrays, each in the newest version of its kind
abbrev pub arrays_of : Contents → Kinds
arrays_of script = unwrap_or (manifest_of (pairs_of script.arrays)) []

-- how many blanks of each kind the script's lines supply
abbrev pub needed_by : Contents → Blanks
needed_by script kind = blanks_of kind script.lines

-- The files recover to the world after some of the events, with all that were durable among them;
-- if the store wasn't reported as made, to nothing or to the new store.
abbrev pub IsExpected : Kinds → List Event → (durable : Option ℕ) → CrashBytes → Type 0
IsExpected kinds events None outcome = IsNothingOrNew kinds outcome
IsExpected kinds events (Some durable) outcome = IsLawful (new_world kinds) 0 events durable outcome

module _ {D : Type 0} (G : disks.Ghosts D) where
  -- from one engine to the other a store is halted if and only if its disk fails, which it does
  -- once
  abbrev pub HaltsByFailure : (old new : EngineShown D) → Type 0
  HaltsByFailure old new = (core_of old).halted ≡ false →
      G.faults new.disk ≡ faults_after (not (core_of new).halted) (G.faults old.disk)

  -- A run on a disk leaves this. Its events can happen one after another; those that are durable
  -- are among them; the disk failed, once, if and only if the run was stopped; a store was made if
  -- it didn't fail, and on an honest disk only if no half was open; and if an honest disk had no
  -- store, each crash afterwards leaves what is expected.
  pub record IsRound (kinds : Kinds) (first : D) (round : Round D) : Type 0 where
    pub legal : IsLegal (new_world kinds) 0 round.events.items
    pub within : IfSome round.durable (λ durable. durable ≤ length round.events.items)
    pub counted : G.faults round.disk ≡ faults_after (not round.is_stopped) (G.faults first)
    pub made : round.is_stopped ≡ false → IsSome round.durable
    pub honest : (G.honest first → G.honest round.disk) × (G.honest round.disk → G.honest first)
    pub closed : G.honest first → IsSome round.durable →
        IsClosed (G.file first Zero).now × IsClosed (G.file first One).now
    pub now : G.honest first → IsClosed (G.file first Zero).now → IsClosed (G.file first One).now →
        (outcome : CrashBytes) → MayLeave (G.file round.disk) outcome →
        IsExpected kinds round.events.items round.durable outcome

  -- why there is no round: there can't be this number of processors; a half of an honest disk is
  -- open; the lines supply too many of this kind, the least such, and this is how many; or out of
  -- memory
  abbrev pub IsNotRun : (given : Blanks) → Contents → (first : D) → Refusal → Type 0
  IsNotRun given script first BadPes = is_processor_count (processors_of script) ≡ false
  IsNotRun given script first AlreadyHere = G.honest first →
      IsOpen (G.file first Zero).now ⊎ IsOpen (G.file first One).now
  IsNotRun given script first (BlanksWanted kind count) =
      IsLeastShort given (needed_by script) kind count
  IsNotRun given script first Memory = ⊤
  IsNotRun given script first _ = ⊥
