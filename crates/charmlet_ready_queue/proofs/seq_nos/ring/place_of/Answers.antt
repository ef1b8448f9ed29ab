use Rattle.std.proofs.Common.{◌<◌, ◌≤◌, arith, subst, sym, take, drop}
use Rattle.charmlet_ready_queue.specs.SeqNos.SeqNos.{AllBefore, AllFrom, in_order}
use Rattle.charmlet_ready_queue.proofs.seq_nos.ring.place_of.Goals as goal
use Rattle.charmlet_ready_queue.proofs.seq_nos.ring.place_of.Goals.{then-here-number-2, else-here-number-2}
use Rattle.charmlet_ready_queue.proofs.SeqNosLemmas.Rising.{before_one, from_one, up_to_one}

pub returns-then-here-number-clause-before : goal.returns-then-here-number-clause-before
returns-then-here-number-clause-before g c = before_one (in_order c.args.behind c.args.ring.now.items) c.loop-low.middle c.look-here.result c.args.number c.requires.climbs c.look-here.ensures.number (omega (arith, c.if-here-number.true))

pub returns-then-here-number-clause-from : goal.returns-then-here-number-clause-from
returns-then-here-number-clause-from g c = from_one (in_order c.args.behind c.args.ring.now.items) c.loop-low.middle c.look-here.result c.args.number c.requires.climbs c.look-here.ensures.number (omega (arith, c.if-here-number.true))

pub loop-low-preserved : goal.loop-low-preserved
loop-low-preserved g c =
    let inv = c.loop-low.invariant in
    let seq_nos = in_order c.args.behind c.args.ring.now.items in
    let test = c.loop-low-test.true in
    let from : c.loop-low.low ≤ c.loop-low.middle = inv.middle_from test in
    let to : c.loop-low.middle < c.loop-low.high = inv.middle_to test in
    let is = c.look-here.ensures.number in
    elim c.if-here-number-2.branch [
      | then-here-number-2 w ↦ record {
        order = omega (arith, w.low-is, w.high-is, to);
        within = omega (arith, w.high-is, inv.within);
        middle_from = c.guess-middle.ensures.from;
        middle_to = c.guess-middle.ensures.to;
        before = subst (λ n. AllBefore c.args.number (take n seq_nos)) (sym w.low-is) (up_to_one seq_nos c.loop-low.middle c.look-here.result c.args.number c.requires.climbs is w.if-here-number-2.true);
        from = subst (λ n. AllFrom c.args.number (drop n seq_nos)) (sym w.high-is) inv.from;
      }
      | else-here-number-2 w ↦ record {
        order = omega (arith, w.low-is, w.high-is, from);
        within = omega (arith, w.high-is, inv.within, to);
        middle_from = c.guess-middle.ensures.from;
        middle_to = c.guess-middle.ensures.to;
        before = subst (λ n. AllBefore c.args.number (take n seq_nos)) (sym w.low-is) inv.before;
        from = subst (λ n. AllFrom c.args.number (drop n seq_nos)) (sym w.high-is) (from_one seq_nos c.loop-low.middle c.look-here.result c.args.number c.requires.climbs is w.if-here-number-2.false);
      }
    ]
