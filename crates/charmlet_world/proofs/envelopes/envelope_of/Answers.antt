use Rattle.std.proofs.Common.{◌<◌, ◌≤◌, arith, subst, sym, take, drop}
use Rattle.charmlet_ready_queue.specs.SeqNos.SeqNos.{AllAfter, AllBefore}
use Rattle.charmlet_ready_queue.proofs.SeqNosLemmas.Rising.{up_to_one}
use Rattle.charmlet_world.specs.Waiting.{seqs}
use Rattle.charmlet_world.proofs.Climbing.{after_one, nowhere}
use Rattle.charmlet_world.proofs.envelopes.envelope_of.Goals as goal
use Rattle.charmlet_world.proofs.envelopes.envelope_of.Goals.{then-here-number-2, else-here-number-2}

pub loop-low-preserved : goal.loop-low-preserved
loop-low-preserved c =
    let inv = c.loop-low.invariant in
    let seq_nos = seqs c.args.envelopes.now.entries in
    let test = c.loop-low-test.true in
    let from : c.loop-low.low ≤ c.loop-low.middle = inv.middle_from test in
    let to : c.loop-low.middle < c.loop-low.high = inv.middle_to test in
    let is = c.seq_at-here.ensures in
    let next = c.within-middle-in-loop-low.ensures in
    elim c.if-here-number-2.branch [
      | then-here-number-2 w ↦ record {
        order = omega (arith, w.low-is, w.high-is, to);
        within = omega (arith, w.high-is, inv.within);
        middle_from = next.from;
        middle_to = next.to;
        before = subst (λ n. AllBefore c.args.number (take n seq_nos)) (sym w.low-is) (up_to_one seq_nos c.loop-low.middle c.seq_at-here.result c.args.number c.requires is w.if-here-number-2.true);
        after = subst (λ n. AllAfter c.args.number (drop n seq_nos)) (sym w.high-is) inv.after;
      }
      | else-here-number-2 w ↦ record {
        order = omega (arith, w.low-is, w.high-is, from);
        within = omega (arith, w.high-is, inv.within, to);
        middle_from = next.from;
        middle_to = next.to;
        before = subst (λ n. AllBefore c.args.number (take n seq_nos)) (sym w.low-is) inv.before;
        after = subst (λ n. AllAfter c.args.number (drop n seq_nos)) (sym w.high-is) (after_one seq_nos c.loop-low.middle c.seq_at-here.result c.args.number c.requires is (omega (arith, w.if-here-number-2.false, c.if-here-number.false)));
      }
    ]

pub returns-clause-nowhere : goal.returns-clause-nowhere
returns-clause-nowhere c = λ _.
    let inv = c.loop-low.invariant in
    nowhere (seqs c.args.envelopes.now.entries) c.loop-low.low c.loop-low.high c.args.number inv.order c.loop-low-test.false inv.before inv.after
