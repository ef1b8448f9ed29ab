use Rattle.std.proofs.Common.{◌≡◌, ℕ, List, length}
use Rattle.charmlet_ready_queue.specs.SeqNos.SeqNos.{Climbs}
use Rattle.charmlet_ready_queue.specs.declared.index.place.QueuePlace.{QueuePlace}
use Rattle.charmlet_ready_queue.specs.Index.Index.{AreApart, ArePositioned, HaveRoom, IsIndexOf}
use Rattle.charmlet_ready_queue.proofs.IndexLemmas.Between.{Between}
use Rattle.charmlet_ready_queue.proofs.index.index.Index.update_readiness.Given as goal

abbrev pub invariant-loop-call : goal.invariant-loop-call
invariant-loop-call g l = record {
  between : (seq_nos : List ℕ) (place : ℕ → QueuePlace) → IsIndexOf seq_nos place l.fn.self.lists → Climbs seq_nos → ArePositioned l.old (g.C.Chain.left l.fn.calls) seq_nos place → Between l.old l.new (g.C.Chain.left l.fn.calls) (g.C.Chain.left l.calls) seq_nos place l.self.lists;
  apart : AreApart (g.C.Chain.left l.calls);
  room : HaveRoom l.fn.self.headroom l.old l.new (length (g.C.Chain.left l.calls)) l.self.lists;
  len : length l.self.lists ≡ length l.fn.self.lists;
  next : l.self.next ≡ l.fn.self.next;
  headroom : l.self.headroom ≡ l.fn.self.headroom;
}

abbrev pub decreases-loop-call : goal.decreases-loop-call
decreases-loop-call g l = length (g.C.Chain.left l.calls)
