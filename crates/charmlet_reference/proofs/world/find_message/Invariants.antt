use Rattle.std.proofs.Common.{◌≡◌, ◌++◌, take, drop}
use Rattle.charmlet_model.specs.World.{message_among, without}
use Rattle.charmlet_reference.proofs.world.find_message.Given as goal

-- the first message with the id is among those that are left
abbrev pub invariant-loop-place : goal.invariant-loop-place
invariant-loop-place l =
    (message_among l.id (drop l.place l.messages) ≡ message_among l.id l.messages)
    × (take l.place l.messages ++ without l.id (drop l.place l.messages) ≡ without l.id l.messages)
