use Rattle.std.proofs.Common.{◌≡◌, take}
use Rattle.charmlet_migrate.specs.Moving.{objects_among}
use Rattle.charmlet_store.proofs.census.count_all.Given as goal

abbrev pub invariant-loop-shelf : goal.invariant-loop-shelf
invariant-loop-shelf g l = l.count ≡ objects_among (take l.shelf-index l.shelves) l.kind
