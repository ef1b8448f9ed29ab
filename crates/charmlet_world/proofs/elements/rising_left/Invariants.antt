use Rattle.std.proofs.Common.{◌≡◌, ◌≤◌, drop, length}
use Rattle.charmlet_world.specs.Standing.{left_of, risen}
use Rattle.charmlet_world.proofs.elements.rising_left.Given as goal

-- those of the rows from the index on stand in the tree
abbrev pub invariant-loop-index : goal.invariant-loop-index
invariant-loop-index l = record {
  within : l.index ≤ length l.rows.entries;
  so_far : l.tree.entries ≡ left_of (risen (drop l.index l.rows.entries));
}

abbrev pub decreases-loop-index : goal.decreases-loop-index
decreases-loop-index l = l.index
