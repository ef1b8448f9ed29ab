use Rattle.std.proofs.Common.{◌≡◌, ◌++◌}
use Rattle.charmlet_merge.proofs.history.pending.pending_of.Given as goal

-- what is left goes after the messages so far
abbrev pub invariant-loop-id : goal.invariant-loop-id
invariant-loop-id l = l.pending.items ++ l.id-iterator ≡ l.fn.world.pending
