use Rattle.std.proofs.Common.{◌≡◌, []}
use Rattle.std.specs.Ordering.{nat_cmp}
use Rattle.charmlet_world.specs.Made.{as_it_is, with_made}
use Rattle.charmlet_log_scan.specs.World.Clients.{risen_clients}
use Rattle.charmlet_log_scan.proofs.world.rows.table_of.Given as goal

-- what is left brings the rows to their end
abbrev pub invariant-loop-client : goal.invariant-loop-client
invariant-loop-client l = with_made nat_cmp as_it_is (risen_clients l.rows.entries) l.client-iterator ≡ with_made nat_cmp as_it_is [] l.fn.tree.entries
