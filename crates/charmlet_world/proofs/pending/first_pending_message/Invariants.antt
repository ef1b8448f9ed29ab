use Rattle.std.proofs.Common.{◌≡◌, [], take}
use Rattle.charmlet_world.specs.Waiting.{pending_messages, live}
use Rattle.charmlet_world.proofs.pending.first_pending_message.Given as goal

abbrev pub invariant-loop-index : goal.invariant-loop-index
invariant-loop-index l = live (take l.index (pending_messages l.envelopes.entries)) ≡ []
