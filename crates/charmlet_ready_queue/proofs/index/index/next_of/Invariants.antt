use Rattle.std.proofs.Common.{◌≡◌, ◌+◌, ◌≤◌, ℕ, List}
use Rattle.std.specs.Prelude.{option_map}
use Rattle.charmlet_ready_queue.specs.SeqNos.SeqNos.{Climbs}
use Rattle.charmlet_ready_queue.specs.declared.index.place.QueuePlace.{QueuePlace}
use Rattle.charmlet_ready_queue.specs.Index.Index.{IsIndexOf, IsPlaced, first_of}
use Rattle.charmlet_ready_queue.proofs.IndexLemmas.Firsts.{is_below}
use Rattle.charmlet_ready_queue.proofs.index.index.next_of.Given as goal

abbrev pub invariant-loop-on : goal.invariant-loop-on
invariant-loop-on g l = record {
  best : (seq_nos : List ℕ) (place : ℕ → QueuePlace) → IsIndexOf seq_nos place l.lists.items → Climbs seq_nos → option_map (λ e. e.1) l.best ≡ first_of (is_below place l.on) seq_nos;
  placed : (seq_nos : List ℕ) (place : ℕ → QueuePlace) → IsIndexOf seq_nos place l.lists.items → IsPlaced place l.best;
  ticks : l.ticks ≤ l.fn.ticks + l.on;
}
