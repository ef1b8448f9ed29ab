use Rattle.std.proofs.Common.{◌≡◌, ◌+◌, ◌≤◌, length, vec_len}
use Rattle.indexmap.specs.IndexMap.{spare}
use Rattle.charmlet_shelf.specs.Risen.{risen}
use Rattle.charmlet_persist.specs.FuzzyCheckpoint.Checkpoint.{with_images}
use Rattle.charmlet_persist.proofs.fuzzy_checkpoint.shelves.capture_all.Given as goal

-- the images that are left capture what all of them do, and have their room
abbrev pub invariant-loop-image : goal.invariant-loop-image
invariant-loop-image l = record {
  captured : with_images (risen l.table.entries) l.images.items ≡ with_images (risen l.fn.table.entries) l.initial.images.items;
  room : length l.images.items ≤ spare l.table;
  used : spare l.fn.table + length l.images.items ≤ spare l.table + length l.initial.images.items;
}

abbrev pub decreases-loop-image : goal.decreases-loop-image
decreases-loop-image l = vec_len l.images
