use Rattle.charmlet_leases.proofs.TicketsLemmas.Moves.{pops}
use Rattle.charmlet_leases.proofs.tickets.queue.TicketQueue.pop.Goals as goal

pub try_pop_as-requires-clause-rule : goal.try_pop_as-requires-clause-rule
try_pop_as-requires-clause-rule c = pops _ _
