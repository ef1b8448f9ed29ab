use Rattle.std.proofs.Common.{inr, sym, ap, subst, ◌∙◌, arith}
use Rattle.charmlet_lab.specs.Trials.{AreTried, places}
use Rattle.charmlet_lab.proofs.Counting.{none_taken}
use Rattle.charmlet_lab.proofs.trials.try_crashes.Goals as goal

pub returns-clause-ok : goal.returns-clause-ok
returns-clause-ok g c =
    let line = c.loop-calls.line in record {
      more = 0;
      tried = subst (λ ps. AreTried g.D.Disk g.D.LabDisk.calls_left c.args.script.now ps line) (ap places (sym c.loop-calls.invariant.stops) ∙ sym (none_taken (places line.stops) line.stops)) c.loop-calls.invariant.tried;
      ended = inr (omega (arith, c.loop-calls.invariant.stops, c.loop-calls-test.false, c.loop-calls.auto.calls-end));
    }
