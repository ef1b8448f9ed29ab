use Rattle.std.proofs.Common.{◌≡◌, take}
use Rattle.charmlet_model.specs.Sound.{new_world}
use Rattle.charmlet_model.specs.World.{world}
use Rattle.charmlet_lab.specs.Rounds.{arrays_of}
use Rattle.charmlet_lab.proofs.verdict.world_after.Given as goal

-- the world after the events so far
abbrev pub invariant-loop-event : goal.invariant-loop-event
invariant-loop-event l = l.plain ≡ world (new_world (arrays_of l.script)) (take l.event-index l.events)
