use Rattle.std.proofs.Common.{◌≡◌, length}
use Rattle.charmlet_replay.proofs.Cleared.{IsDismissing}
use Rattle.charmlet_replay.proofs.reclaimed.reclaim.Given as goal

-- the objects of some shelves have gone into the stock
abbrev pub invariant-loop-shelf : goal.invariant-loop-shelf
invariant-loop-shelf g l = record {
  left : l.shelf-iterator.rest.len ≡ length l.shelf-iterator.rest.items;
  so_far : IsDismissing l.fn.stock l.shelf-iterator.rest.items l.stock;
}
