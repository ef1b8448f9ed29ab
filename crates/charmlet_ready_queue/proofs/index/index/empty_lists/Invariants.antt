use Rattle.std.proofs.Common.{◌≡◌, [], ℕ, length}
use Rattle.charmlet_ready_queue.specs.declared.index.place.QueuePlace.{QueuePlace}
use Rattle.charmlet_ready_queue.specs.Index.Index.{AreKept, IsIndexOf}
use Rattle.charmlet_ready_queue.proofs.index.index.empty_lists.Given as goal

abbrev pub invariant-loop-place : goal.invariant-loop-place
invariant-loop-place l = record {
  index : (place : ℕ → QueuePlace) → IsIndexOf [] place l.lists.items;
  len : length l.lists.items ≡ l._place;
  kept : AreKept 0 0 l.lists.items;
}
