use Rattle.std.proofs.Common.{◌≡◌, ◌≤◌, ◌*◌}
use Rattle.charmlet_lab.specs.Trials.{AreTried, places}
use Rattle.charmlet_lab.proofs.trials.try_crashes.Given as goal

-- the crashes of all stops so far were tried
abbrev pub invariant-loop-calls : goal.invariant-loop-calls
invariant-loop-calls g l = record {
  tried : AreTried g.D.Disk g.D.LabDisk.calls_left l.script (places l.calls) l.line;
  stops : l.line.stops ≡ l.calls;
  outcomes : l.line.outcomes ≤ 6 * l.calls;
}
