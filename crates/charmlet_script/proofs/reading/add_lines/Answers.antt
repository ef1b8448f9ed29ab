use Rattle.std.proofs.Common.{arith}
use Rattle.charmlet_script.proofs.LineLoops.{AreFor-with_line, length-with_line, lines_go_on, lines_stop, lines_done}
use Rattle.charmlet_script.proofs.reading.add_lines.Goals as goal

pub returns-in-Err-Malformed-clause-reads : goal.returns-in-Err-Malformed-clause-reads
returns-in-Err-Malformed-clause-reads c = lines_stop c.args.purpose (λ line. line.now) c.args.lines.now c.loop-index.index _ c.loop-index.script _ c.loop-index-test.true (rw c.in-Err-Malformed.field-0-is at c.in-Err-Malformed.ensures) c.loop-index.invariant.reads

pub loop-index-preserved : goal.loop-index-preserved
loop-index-preserved c = record {
  reads = lines_go_on c.args.purpose (λ line. line.now) c.args.lines.now c.loop-index.index _ c.loop-index.script c.add_line.new.script _ c.loop-index-test.true c.in-Ok.ensures c.loop-index.invariant.reads;
  lines = AreFor-with_line _ _ _ _ c.loop-index.invariant.lines c.in-Ok.ensures;
  few = omega (arith, length-with_line _ _ _ _ c.in-Ok.ensures);
}

pub returns-clause-reads : goal.returns-clause-reads
returns-clause-reads c = lines_done c.args.purpose (λ line. line.now) c.args.lines.now c.loop-index.index c.loop-index.script _ c.loop-index-test.false c.loop-index.invariant.reads
