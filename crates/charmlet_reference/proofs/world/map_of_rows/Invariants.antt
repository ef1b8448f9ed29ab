use Rattle.std.proofs.Common.{◌≡◌, ◌++◌}
use Rattle.charmlet_reference.proofs.world.map_of_rows.Given as goal

-- what is left goes after the entries so far
abbrev pub invariant-loop-client : goal.invariant-loop-client
invariant-loop-client l = l.map.entries ++ l.client-iterator.rest.items ≡ l.fn.rows.items
