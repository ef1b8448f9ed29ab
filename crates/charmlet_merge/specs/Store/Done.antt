-- Replayers who have done all tasks of a log.
use Rattle.std.specs.Prelude.{◌≡◌, ℕ, List, length}
use Rattle.charmlet_model.specs.declared.logged.Logged.{Logged}
use Rattle.charmlet_model.specs.World.{World, world}
use Rattle.charmlet_record.specs.declared.positioned.Positioned.{Positioned}
use Rattle.charmlet_image.specs.Positioned.{items_of}
use Rattle.charmlet_recovery.specs.Bases.{events_of}
use Rattle.charmlet_recovery.specs.Replays.{LogScan}
use Rattle.charmlet_chare.specs.declared.chare.Chare.{Ghosts}
use Rattle.charmlet_world.specs.Seen.{Seen, present_rows}
use Rattle.charmlet_merge.specs.replayer.Replayer.{Replayer}
use Rattle.charmlet_merge.specs.Combined.{worker_at_home}
use Rattle.charmlet_merge.specs.Rows.{AreToFill}

-- No event of the log is at fault, each replayer has what the tasks of its own elements reply, and
-- what the scan kept is the world after the log but for the words of the log's own replies.
pub record AreAllDone {C : Type 0} {G : Ghosts C} (w : World) (count : ℕ) (scan : LogScan)
    (log : List (Positioned Logged)) (seen : World) (kept : Seen) (replayers : List (Replayer C G))
    : Type 0 where
  pub fill : AreToFill (worker_at_home kept.processors (length replayers)) w count scan log
      (present_rows kept.clients) replayers
  pub last : seen ≡ world w (events_of (items_of log))
  pub pending : kept.pending ≡ seen.pending
