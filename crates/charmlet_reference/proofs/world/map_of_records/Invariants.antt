use Rattle.std.proofs.Common.{◌≡◌, ◌++◌}
use Rattle.charmlet_reference.proofs.world.map_of_records.Given as goal

-- what is left goes after the entries so far
abbrev pub invariant-loop-elem : goal.invariant-loop-elem
invariant-loop-elem l = l.map.entries ++ l.elem-iterator.rest.items ≡ l.fn.records.items
