-- Clients' rows that are filled with what all replayers reply.
use Rattle.std.specs.Prelude.{◌≡◌, ℕ, ◌<◌, ◌≤◌, ◌^◌, List, length, None}
use Rattle.std.specs.List.{AllByRecursion}
use Rattle.charmlet_model.specs.declared.client.ClientRow.{ClientRow}
use Rattle.charmlet_model.specs.declared.logged.Logged.{Logged}
use Rattle.charmlet_model.specs.declared.names.Elem.{Elem}
use Rattle.charmlet_model.specs.Fit.{IsFit}
use Rattle.charmlet_model.specs.World.{IsEvent, World}
use Rattle.charmlet_record.specs.declared.positioned.Positioned.{Positioned}
use Rattle.charmlet_image.specs.Positioned.{items_of}
use Rattle.charmlet_recovery.specs.Bases.{events_of}
use Rattle.charmlet_recovery.specs.Faults.{event_tests, first_failure}
use Rattle.charmlet_recovery.specs.Replays.{IsBeginning, LogScan}
use Rattle.charmlet_chare.specs.declared.chare.Chare.{Ghosts}
use Rattle.charmlet_replayers.specs.Replies.Filled.{AreButForReplies}
use Rattle.charmlet_replayers.specs.Replayer.Tasks.{HaveReplies}
use Rattle.charmlet_replayers.specs.declared.replayer.replayer.Replayer.{Replayer}

-- No event of the log is at fault, each replayer has what its tasks reply, and the rows are those
-- of the world after the log but for the words of the log's own replies.
pub record AreToFill {C : Type 0} {G : Ghosts C} (worker : Elem → ℕ) (w : World) (count : ℕ)
    (scan : LogScan) (log : List (Positioned Logged)) (rows : List (ℕ × ClientRow))
    (replayers : List (Replayer C G)) : Type 0 where
  pub fit : IsFit w
  pub typed : AllByRecursion IsEvent (events_of (items_of log))
  pub few : count ≤ 2 ^ 40
  pub begin : IsBeginning w scan
  pub happen : first_failure (event_tests w count (items_of log)) ≡ None
  pub within : (x : Elem) → worker x < length replayers
  pub replies : HaveReplies worker w scan log replayers
  pub others : AreButForReplies w (events_of (items_of log)) rows
