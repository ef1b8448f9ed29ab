use Rattle.charmlet_leases.proofs.TicketsLemmas.Moves.{pushes}
use Rattle.charmlet_leases.proofs.tickets.queue.TicketQueue.push.Goals as goal

pub try_push_as-requires-clause-rule : goal.try_push_as-requires-clause-rule
try_push_as-requires-clause-rule c = pushes _ _ _ _ c.self.invariant.1
