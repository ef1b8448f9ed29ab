use Rattle.std.proofs.Common.{◌≡◌, ◌+◌, ◌<◌, arith, ap, sym, ◌∙◌, length}
use Rattle.charmlet_ready_queue.specs.Index.Index.{earlier, first_of, is_ready_on}
use Rattle.charmlet_ready_queue.proofs.IndexLemmas.Firsts.{all_below, first_either, is_below, none_below, on_this, one_more_below}
use Rattle.charmlet_ready_queue.proofs.index.index.next_of.Goals as goal

pub loop-on-init : goal.loop-on-init
loop-on-init g c = record {
  best = λ seq_nos place is climbs. none_below place seq_nos;
  placed = λ seq_nos place is. tt;
  ticks = omega arith;
}

pub loop-on-preserved : goal.loop-on-preserved
loop-on-preserved g c =
    let k = c.loop-on.on in
    let within : k < length c.args.lists.now.items = grind arith in
    record {
      best = λ seq_nos place is climbs.
          c.earlier_of-best.ensures.seq_no
          ∙ ((λ i. earlier (c.loop-on.invariant.best seq_nos place is climbs i) (c.oldest_of-here.ensures.index seq_nos place is within i))
          ∙ sym (first_either (is_below place k) (λ n. is_ready_on (place n) k) (is_below place (k + 1)) (one_more_below place k) seq_nos climbs));
      placed = λ seq_nos place is. c.earlier_of-best.ensures.placed place (c.loop-on.invariant.placed seq_nos place is) (on_this place k c.oldest_of-here.result seq_nos (c.oldest_of-here.ensures.index seq_nos place is within));
      ticks = omega (arith, c.loop-on.invariant.ticks, c.oldest_of-here.ensures.ticks);
    }

pub returns-clause-index : goal.returns-clause-index
returns-clause-index g c = λ seq_nos place is climbs on_all.
    let n : c.loop-on.on ≡ length c.args.lists.now.items = grind arith in
    c.loop-on.invariant.best seq_nos place is climbs
    ∙ (ap (λ m. first_of (is_below place m) seq_nos) n ∙ all_below place (length c.args.lists.now.items) seq_nos on_all)
