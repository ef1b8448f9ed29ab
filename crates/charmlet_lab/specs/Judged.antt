-- Whether what came back is a world of a run.
use Rattle.std.specs.Prelude.{◌≡◌, ◌⊎◌, ◌+◌, ◌≤◌, ℕ, List, length, take, Option, Some, None, Result, Ok, Err, unwrap_or}
use Rattle.charmlet_model.specs.declared.event.Event.{Event}
use Rattle.charmlet_model.specs.declared.refusal.Refusal.{Refusal}
use Rattle.charmlet_model.specs.declared.refusal.Refusal.TheVariants.{Device, Memory, NothingHere}
use Rattle.charmlet_model.specs.Core.{Blanks, Core, present}
use Rattle.charmlet_model.specs.Sound.{new_world}
use Rattle.charmlet_model.specs.World.{world}
use Rattle.charmlet_record.specs.Reading.{Kinds}
use Rattle.charmlet_recovery.specs.Outcomes.{IsLawful}
use Rattle.charmlet_recovery.specs.Recovered.{Nothing, recovered}
use Rattle.charmlet_recovery.specs.Restarts.{engine_refusal}
use Rattle.charmlet_persist.specs.Snapshot.Showing.{IsRefusal}
use Rattle.charmlet_chare.specs.declared.chare.Chare as chares
use Rattle.charmlet_disk.specs.File.{CrashBytes}
use Rattle.charmlet_engine.specs.Engine.{EngineShown, supplied_of, view_of}
use Rattle.charmlet_engine.specs.restarted.NotRestarted.{NotRestarted}

-- how many events there are, including those before the opening world
abbrev pub count_of : Core → ℕ
count_of core = core.before + length core.history

-- The store has the world after the first events of a run, as many as it counts, with all that were
-- durable among them.
pub record HasFirst (kinds : Kinds) (events : List Event) (durable : ℕ) (core : Core) : Type 0 where
  pub no_fewer : durable ≤ count_of core
  pub no_more : count_of core ≤ length events
  pub is : present core ≡ world (new_world kinds) (take (count_of core) events)

-- a store came back that has the first events of the run; or there is none, and it wasn't said to
-- be made
abbrev pub IsGood : Kinds → List Event → (durable : Option ℕ) → Result Core Refusal → Type 0
IsGood kinds events durable (Ok core) = HasFirst kinds events (unwrap_or durable 0) core
IsGood kinds events durable (Err refusal) = (refusal ≡ NothingHere) × (durable ≡ None)

-- why a restart isn't judged: if a store came back, out of memory, or an image of it would pass a
-- limit; and else it was itself out of memory, or the device failed in it, which is handed on
abbrev pub IsNotJudged : Result Core Refusal → Refusal → Type 0
IsNotJudged (Ok core) refusal = IsRefusal core refusal
IsNotJudged (Err refused) refusal = (refusal ≡ refused)
    × ((refused ≡ Memory) ⊎ (refused ≡ Device))

-- the same store with the same blanks, and the same disk
pub record IsSameEngine {D : Type 0} (old new : EngineShown D) : Type 0 where
  pub view : view_of new ≡ view_of old
  pub supplied : supplied_of new ≡ supplied_of old
  pub disk : new.disk ≡ old.disk

-- the engine that came back is as it was, and so is a refusal
abbrev pub IsAsBefore : {D C : Type 0} {H : chares.Ghosts C} →
    (old new : Result (EngineShown D) (NotRestarted D C H)) → Type 0
IsAsBefore (Ok old) (Ok new) = IsSameEngine old new
IsAsBefore (Err old) (Err new) = new ≡ old
IsAsBefore (Ok old) (Err new) = ⊥
IsAsBefore (Err old) (Ok new) = ⊥

-- the files recover to nothing, or to the world after some of the events
abbrev pub IsNothingOrLawful : Kinds → List Event → CrashBytes → Type 0
IsNothingOrLawful kinds events outcome = (recovered outcome ≡ Nothing)
    ⊎ IsLawful (new_world kinds) 0 events 0 outcome

-- The files aren't bad: a restart isn't refused, and they recover to the world after some of the
-- events, with all that were durable among them; or it is refused since they hold no store, and
-- none was said to be made.
abbrev pub IsGoodUnless : Kinds → List Event → (durable : Option ℕ) → CrashBytes → Option Refusal →
    Type 0
IsGoodUnless kinds events durable outcome None =
    IsLawful (new_world kinds) 0 events (unwrap_or durable 0) outcome
IsGoodUnless kinds events durable outcome (Some refusal) = (refusal ≡ NothingHere)
    × (durable ≡ None)

-- the same, of a restart with these blanks
abbrev pub AreGood : Kinds → List Event → (durable : Option ℕ) → (given : Blanks) → CrashBytes →
    Type 0
AreGood kinds events durable given outcome =
    IsGoodUnless kinds events durable outcome (engine_refusal given outcome)
