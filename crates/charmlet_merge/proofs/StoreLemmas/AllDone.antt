-- What is known of replayers who have done all tasks of a log.
use Rattle.std.proofs.Common.{ℕ, List, length, sym, subst}
use Rattle.charmlet_model.specs.declared.logged.Logged.{Logged}
use Rattle.charmlet_model.specs.Fit.{IsFit}
use Rattle.charmlet_model.specs.World.{World}
use Rattle.charmlet_model.proofs.Fits.{fit-world}
use Rattle.charmlet_record.specs.declared.positioned.Positioned.{Positioned}
use Rattle.charmlet_image.specs.Positioned.{items_of}
use Rattle.charmlet_recovery.specs.Bases.{events_of}
use Rattle.charmlet_recovery.specs.Replays.{LogScan}
use Rattle.charmlet_chare.specs.declared.chare.Chare.{Ghosts}
use Rattle.charmlet_shelf.specs.Shelf.{View}
use Rattle.charmlet_stock.specs.declared.stock.Stock.{Stock}
use Rattle.charmlet_world.specs.Seen.{Seen}
use Rattle.charmlet_replayers.proofs.RepliesLemmas.OfEvents.{all-can}
use Rattle.charmlet_merge.specs.replayer.Replayer.{Replayer}
use Rattle.charmlet_merge.specs.Combined.{IsJoinable, worker_at_home}
use Rattle.charmlet_merge.specs.Merged.{ArePartsOn}
use Rattle.charmlet_merge.specs.Store.Done.{AreAllDone}

module _ {C : Type 0} {G : Ghosts C} (w : World) (count : ℕ) (scan : LogScan) (log : List (Positioned Logged)) (seen : World) (kept : Seen) (replayers : List (Replayer C G)) (done : AreAllDone w count scan log seen kept replayers) where
  -- the world is fit
  pub is_fit : IsFit seen
  is_fit =
      let fill = done.fill in
      subst IsFit (sym done.last) (fit-world w (events_of (items_of log)) fill.fit fill.typed (all-can w count (items_of log) fill.happen))

  -- and each replayer has its part of the records
  pub are_parts : (shelves : List View) (stock : Stock C G) → IsJoinable kept.processors seen.records replayers shelves stock → ArePartsOn (worker_at_home kept.processors (length replayers)) kept.processors seen.records replayers
  are_parts shelves stock can = record {
    rising = is_fit.rising_records;
    within = done.fill.within;
    parts = can.parts;
    on = can.on;
  }
