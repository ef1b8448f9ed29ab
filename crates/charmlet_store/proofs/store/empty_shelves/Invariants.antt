use Rattle.std.proofs.Common.{◌≡◌, ℕ, ◌<◌, get_or}
use Rattle.std.specs.Vec.{vec_len}
use Rattle.charmlet_shelf.specs.Shelf.{View}
use Rattle.charmlet_migrate.specs.Copying.{empty_shelf}
use Rattle.charmlet_store.proofs.store.empty_shelves.Given as goal

-- the first shelves are there, empty
abbrev pub invariant-loop-processor : goal.invariant-loop-processor
invariant-loop-processor g l =
    record {
      count : vec_len l.shelves ≡ l.processor;
      empty : (k : ℕ) (shelf : View) → k < l.processor → get_or l.shelves.items k shelf ≡ empty_shelf k;
    }
