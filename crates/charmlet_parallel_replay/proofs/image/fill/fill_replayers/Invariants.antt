use Rattle.std.proofs.Common.{◌≡◌, ℕ, List, length, map}
use Rattle.charmlet_model.specs.declared.logged.CatchUpEntry.{CatchUpEntry}
use Rattle.charmlet_record.specs.declared.positioned.Positioned.{Positioned}
use Rattle.charmlet_image.specs.Views.{entry_said}
use Rattle.charmlet_stock.specs.Stock.{blanks_in}
use Rattle.charmlet_replayers.specs.Dispatch.Keeping.{KeepsAll}
use Rattle.charmlet_parallel_replay.specs.Image.Filled.{CanBeFilled}
use Rattle.charmlet_parallel_replay.proofs.ImageLemmas.Filled.{FilledUpTo}
use Rattle.charmlet_parallel_replay.proofs.image.fill.fill_replayers.Given as goal

-- the first replayers have their elements
abbrev pub invariant-loop-worker : goal.invariant-loop-worker
invariant-loop-worker g l = record {
  keeps : KeepsAll l.fn.stock l.stock l.fn.replayers l.replayers;
  many : l.workers ≡ length l.fn.replayers;
  so_far : (processors : ℕ) (ds : List (Positioned CatchUpEntry)) → CanBeFilled processors l.manifest (map (entry_said l.manifest) l.entries) ds (blanks_in l.fn.stock) l.fn.replayers →
      FilledUpTo processors l.manifest (map (entry_said l.manifest) l.entries) ds l.fn.stock l.fn.replayers l.worker l.stock l.replayers;
}
