use Rattle.std.proofs.Common.{◌∷◌, [], subst, sym, arith, length, length-append, ap}
use Rattle.charmlet_ready_queue.specs.Index.Index.{AreKept, IsBelow, IsIndexOf, IsOn, IsRoomy}
use Rattle.charmlet_ready_queue.proofs.IndexLemmas.Sets.{at_end, below_none}
use Rattle.charmlet_ready_queue.proofs.index.index.empty_lists.Goals as goal

pub loop-place-preserved : goal.loop-place-preserved
loop-place-preserved c =
    let lists = c.loop-place.lists.items in
    let new = c.new.result in
    let e = c.new.ensures in
    let items = c.in_ok-push.ensures.items in
    let more = length-append lists (new ∷ []) in
    let is = ap length items in
    record {
      index = λ place. subst (IsIndexOf [] place) (sym items) (at_end (IsOn [] place) lists new (record { ready = e.ready; waiting = e.waiting; away = e.away }) (c.loop-place.invariant.index place));
      len = omega (arith, is, more, c.loop-place.invariant.len);
      kept = subst (AreKept 0 0) (sym items) (record {
        numbers = c.loop-place.invariant.kept.numbers;
        roomy = at_end (λ p l. IsRoomy 0 l) lists new e.roomy c.loop-place.invariant.kept.roomy;
        below = at_end (λ p l. IsBelow 0 l) lists new (below_none new e.ready e.waiting) c.loop-place.invariant.kept.below;
      });
    }
