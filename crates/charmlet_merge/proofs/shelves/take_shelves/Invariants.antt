use Rattle.std.proofs.Common.{◌≡◌, length}
use Rattle.charmlet_merge.proofs.Taking.{IsTaking}
use Rattle.charmlet_merge.proofs.shelves.take_shelves.Given as goal

-- those before the place were taken
abbrev pub invariant-loop-shelf : goal.invariant-loop-shelf
invariant-loop-shelf g l = record {
  left : l.shelf-iterator.rest.len ≡ length l.shelf-iterator.rest.items;
  so_far : IsTaking l.worker l.workers l.fn.shelves.items l.fn.theirs.items l.place l.shelf-iterator.rest.items l.shelves.items;
}
