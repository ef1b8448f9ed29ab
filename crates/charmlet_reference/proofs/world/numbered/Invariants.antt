use Rattle.std.proofs.Common.{◌≡◌, ◌+◌, ◌++◌, length}
use Rattle.charmlet_model.specs.World.{numbered}
use Rattle.charmlet_reference.proofs.world.numbered.Given as goal

-- what is left goes after the sequence numbers so far
abbrev pub invariant-loop-to : goal.invariant-loop-to
invariant-loop-to l =
    (l.seq_nos.items ++ numbered l.from l.number l.to-iterator.rest.items ≡ numbered l.from l.sent l.fn.sends)
    × (l.number + length l.to-iterator.rest.items ≡ l.sent + length l.fn.sends)
