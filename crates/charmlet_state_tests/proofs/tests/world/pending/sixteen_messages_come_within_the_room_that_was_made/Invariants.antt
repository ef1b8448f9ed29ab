use Rattle.std.proofs.Common.{◌+◌, ◌≤◌}
use Rattle.charmlet_state_tests.proofs.tests.world.pending.sixteen_messages_come_within_the_room_that_was_made.Given as goal

abbrev pub invariant-loop-number : goal.invariant-loop-number
invariant-loop-number g l = 16 ≤ l.pending.room + l.number
