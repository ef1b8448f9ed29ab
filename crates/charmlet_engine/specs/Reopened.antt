-- Stores that came back from a disk and don't go on there yet.
use Rattle.std.specs.Prelude.{◌≡◌, ℕ, Bool, true, false, List, None, Result, IfErr, IfOk}
use Rattle.charmlet_model.specs.declared.event.Event.{Event}
use Rattle.charmlet_model.specs.declared.half.Half.{Half}
use Rattle.charmlet_model.specs.declared.refusal.Refusal.{Refusal}
use Rattle.charmlet_model.specs.declared.refusal.Refusal.TheVariants as refusals
use Rattle.charmlet_model.specs.Core.{Core}
use Rattle.charmlet_model.specs.Sound.{IsSound}
use Rattle.charmlet_model.specs.World.{World}
use Rattle.charmlet_chare.specs.declared.chare.Chare as chares
use Rattle.charmlet_disk.specs.declared.disk.Disk as disks
use Rattle.charmlet_disk.specs.Calls.{AfterCall}
use Rattle.charmlet_halves.specs.Answers.{is_no_failure}
use Rattle.charmlet_halves.specs.Halves.{disk_of, taken_half}
use Rattle.charmlet_history.specs.Kept.{core_in}
use Rattle.charmlet_persist.specs.Writes.Rest.{GoesOn, IsCurrent, IsKept}
use Rattle.charmlet_locate.specs.Locations.{is_processor_count}
use Rattle.charmlet_recovery.specs.Outcomes.{IsLawful}
use Rattle.charmlet_recovery.specs.Restarts.{engine_refusal, restart_refusal}
use Rattle.charmlet_stock.specs.declared.stock.Stock.{Stock}
use Rattle.charmlet_stock.specs.ByKind.{for_all}
use Rattle.charmlet_stock.specs.Stock.{blanks_in, supplied_to}
use Rattle.charmlet_store.specs.Store.{StoreShown}
use Rattle.charmlet_replay.specs.Unused.{IsUnused}
use Rattle.charmlet_recover.specs.declared.restarted.NotRestarted.{NotRestarted}
use Rattle.charmlet_recover.specs.declared.restarted.Recovered.{Recovered}
use Rattle.charmlet_recover.specs.Restart as recovers
use Rattle.charmlet_recover.specs.Restart.{AnswersBy, LeavesSynced, OpensWithin, bytes_on}
use Rattle.charmlet_engine.specs.Engine.{EngineShown, core_of}
use Rattle.charmlet_engine.specs.Lives.{ComesBack, Past, Remembers}
use Rattle.charmlet_engine.specs.Outcomes.{Onward, is_lawful_since}
use Rattle.charmlet_engine.specs.Restarted.{AnswersAfterCrash, CameBack, CameFromFiles, IsHandedBack, IsOpenedOn, IsRefused, LeavesTaken, core_or_refusal, disk_after, gone_on}

-- a store that came back doesn't go on for one of these reasons
abbrev pub is_going_refusal : Refusal → Bool
is_going_refusal refusals.Memory = true
is_going_refusal refusals.ImageFull = true
is_going_refusal refusals.Device = true
is_going_refusal _ = false

-- what its store shows, the disk that it owns, the half from which it came, and whether events may
-- be appended to the log of that
pub record ReopenedShown (D : Type 0) : Type 0 where
  pub store : StoreShown
  pub disk : D
  pub half : Half
  pub is_current : Bool

-- its core once it goes on: as it came back, or at the next generation, after an image
abbrev pub core_to_be : {D : Type 0} → ReopenedShown D → Core
core_to_be reopened = gone_on reopened.is_current (core_in reopened.store.history)

module _ {D C : Type 0} {G : disks.Ghosts D} where
  -- what is seen of a store that came back
  abbrev pub shown_in : Recovered D C G → ReopenedShown D
  shown_in back = record {
    store = back.store;
    disk = disk_of back.halves;
    half = taken_half back.halves;
    is_current = back.is_current;
  }

  -- Nothing has happened in it. Its stock keeps what is retired, and its halves go on where it
  -- does. On an honest disk each crash keeps it, and where its half is current events may be
  -- appended to that.
  pub record IsWaiting (back : Recovered D C G) : Type 0 where
    pub opens : IsOpenedOn (recovers.core_of back).processors (recovers.core_of back)
    pub keeping : back.store.keeping ≡ for_all true
    pub goes_on : GoesOn (recovers.core_of back) back.halves
    pub keeps : G.honest (disk_of back.halves) → IsKept (recovers.core_of back) back.halves
    pub current : G.honest (disk_of back.halves) → back.is_current ≡ true →
        IsCurrent back.halves

module _ {D C : Type 0} {H : chares.Ghosts C} where
  -- The store came back from the first disk, on so many processors and with these blanks, of which
  -- none had been used, and nothing was written. On an honest disk it is what the files recover to,
  -- which gives no cause of a refusal; and after a crash it has the world after some of what had
  -- happened, with all durable events among it.
  pub record IsReopened (G : disks.Ghosts D) (processors : ℕ) (blanks : Stock C H) (first : D)
      (reopened : ReopenedShown D) : Type 0 where
    pub back : Recovered D C G
    pub is : reopened ≡ shown_in back
    pub counted : is_processor_count processors ≡ true
    pub unused : IsUnused blanks
    pub came : recovers.CameBack processors (blanks_in blanks) (supplied_to blanks) back
    pub files : G.honest first →
        recovers.CameFromFiles (blanks_in blanks) (bytes_on (G.file first)) back
    pub lawful : G.honest first → (w : World) (before : ℕ) (history : List Event) (durable : ℕ) →
        IsLawful w before history durable (bytes_on (G.file first)) →
        OpensWithin w before history durable (recovers.core_of back)
    pub fits : G.honest first →
        restart_refusal (blanks_in blanks) (bytes_on (G.file first)) ≡ None
    pub leaves : G.honest first → LeavesSynced G first (disk_of back.halves) true
    pub after : AfterCall G first (disk_of back.halves) true

  -- All that is promised of a restart from the first disk, on so many processors and with these
  -- blanks: the clauses of `Engine::restart`, one by one.
  pub record IsRestart (G : disks.Ghosts D) (processors : ℕ) (blanks : Stock C H) (first : D)
      (result : Result (EngineShown D) (NotRestarted D C H)) : Type 0 where
    pub ok : IfOk result (CameBack processors (blanks_in blanks) (supplied_to blanks))
    pub files : G.honest first → IfOk result
        (CameFromFiles G (blanks_in blanks) (bytes_on (G.file first)))
    pub remembers : G.honest first → (past : Past) (old new : Core) → Remembers past old →
        Onward old new → IsSound new → is_lawful_since old new (bytes_on (G.file first)) →
        IfOk result (λ engine. ComesBack past old new (core_of engine))
    pub lawful : G.honest first → (w : World) (before : ℕ) (history : List Event) (durable : ℕ) →
        IsLawful w before history durable (bytes_on (G.file first)) →
        AnswersAfterCrash w before history durable (bytes_on (G.file first))
        (core_or_refusal result)
    pub answer : G.honest first → is_processor_count processors ≡ true →
        AnswersBy (engine_refusal (blanks_in blanks) (bytes_on (G.file first)))
        (core_or_refusal result)
    pub bad : is_processor_count processors ≡ false → IsHandedBack first blanks result
    pub err : IfErr result (IsRefused processors blanks)
    pub leaves : G.honest first → LeavesTaken G first result
    pub after : AfterCall G first (disk_after result) (is_no_failure (core_or_refusal result))
