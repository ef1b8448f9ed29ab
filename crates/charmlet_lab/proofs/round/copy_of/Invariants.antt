use Rattle.std.proofs.Common.{◌≡◌, take}
use Rattle.charmlet_lab.proofs.round.copy_of.Given as goal

-- the events so far
abbrev pub invariant-loop-event : goal.invariant-loop-event
invariant-loop-event l = l.copy.items ≡ take l.event-index l.events
