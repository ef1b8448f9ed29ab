use Rattle.std.proofs.Common.{◌≡◌, drop, []}
use Rattle.charmlet_history.specs.Opened.{with_clients}
use Rattle.charmlet_history.proofs.opening.clients_of.Given as goal

-- what is left brings the rows to their end
abbrev pub invariant-loop-client : goal.invariant-loop-client
invariant-loop-client l = with_clients l.clients.entries (drop l.client-index l.rows) ≡ with_clients [] l.rows
