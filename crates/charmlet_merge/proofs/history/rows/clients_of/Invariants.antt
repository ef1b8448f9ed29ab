use Rattle.std.proofs.Common.{◌≡◌, []}
use Rattle.charmlet_history.specs.Opened.{with_clients}
use Rattle.charmlet_merge.proofs.history.rows.clients_of.Given as goal

-- what is left brings the clients to their end
abbrev pub invariant-loop-client : goal.invariant-loop-client
invariant-loop-client l = with_clients l.clients.entries l.client-iterator ≡ with_clients [] l.fn.rows.entries
