use Rattle.std.proofs.Common.{◌≡◌}
use Rattle.charmlet_world.specs.Waiting.{pending_messages, live}
use Rattle.charmlet_world.proofs.messages.next_pending_message.Given as goal

-- only holes are passed
abbrev pub invariant-loop-id : goal.invariant-loop-id
invariant-loop-id l = record {
  can_next : (goal.iterator-loop-id).can_next l.rest;
  is_finite : (goal.iterator-loop-id).is_finite l.rest;
  same : live (pending_messages l.rest) ≡ live (pending_messages l.fn.rest);
}
