use Rattle.std.proofs.Common.{◌≡◌, ℕ, List}
use Rattle.std.specs.Prelude.{None}
use Rattle.charmlet_ready_queue.specs.declared.index.place.QueuePlace.{QueuePlace}
use Rattle.charmlet_ready_queue.specs.Index.Index.{IsIndexOf, first_of}
use Rattle.charmlet_ready_queue.proofs.IndexLemmas.Firsts.{is_below}
use Rattle.charmlet_ready_queue.proofs.index.index.none_ready.Given as goal

abbrev pub invariant-loop-on : goal.invariant-loop-on
invariant-loop-on l = (seq_nos : List ℕ) (place : ℕ → QueuePlace) → IsIndexOf seq_nos place l.lists.items → first_of (is_below place l.on) seq_nos ≡ None
