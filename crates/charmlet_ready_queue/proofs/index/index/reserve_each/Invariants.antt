use Rattle.std.proofs.Common.{◌≡◌, ◌<◌, ℕ, List, length, slice_get}
use Rattle.std.specs.Prelude.{Some}
use Rattle.charmlet_ready_queue.specs.declared.index.lists.Lists.{Lists}
use Rattle.charmlet_ready_queue.specs.declared.index.place.QueuePlace.{QueuePlace}
use Rattle.charmlet_ready_queue.specs.Index.Index.{IsBelow, IsIndexOf, IsRoomy}
use Rattle.charmlet_ready_queue.proofs.index.index.reserve_each.Given as goal

abbrev pub invariant-loop-on : goal.invariant-loop-on
invariant-loop-on l = record {
  index : (seq_nos : List ℕ) (place : ℕ → QueuePlace) → IsIndexOf seq_nos place l.fn.lists.items → IsIndexOf seq_nos place l.lists.items;
  len : length l.lists.items ≡ length l.fn.lists.items;
  roomy : (p : ℕ) (k : Lists) → slice_get l.lists.items p ≡ Some k → IsRoomy l.headroom k;
  below : (n : ℕ) → ((p : ℕ) (k : Lists) → slice_get l.fn.lists.items p ≡ Some k → IsBelow n k) → (p : ℕ) (k : Lists) → slice_get l.lists.items p ≡ Some k → IsBelow n k;
  wanted : (p : ℕ) (k : Lists) → p < l.on → slice_get l.lists.items p ≡ Some k → IsRoomy l.wanted k;
}
