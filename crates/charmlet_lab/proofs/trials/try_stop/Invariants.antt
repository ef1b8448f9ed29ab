use Rattle.std.proofs.Common.{◌≡◌, ◌≤◌, ◌+◌, ◌++◌, take}
use Rattle.charmlet_lab.specs.Trials.{AreTried, places, places_at}
use Rattle.charmlet_lab.proofs.trials.try_stop.Given as goal

-- the crashes of the earlier stops were tried, and the first ones of this
abbrev pub invariant-loop-choice : goal.invariant-loop-choice
invariant-loop-choice g l = record {
  tried : AreTried g.D.Disk g.D.LabDisk.calls_left l.script (places l.calls ++ take l.choice-index (places_at l.calls)) l.line;
  stops : l.line.stops ≡ l.calls;
  outcomes : l.line.outcomes ≤ l.initial.line.outcomes + l.choice-index;
}
