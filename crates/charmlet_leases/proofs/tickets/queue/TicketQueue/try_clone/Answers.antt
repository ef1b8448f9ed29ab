use Rattle.charmlet_leases.proofs.TicketsLemmas.Moves.{copies}
use Rattle.charmlet_leases.proofs.tickets.queue.TicketQueue.try_clone.Goals as goal

pub another-token-requires-clause-rule : goal.another-token-requires-clause-rule
another-token-requires-clause-rule c = copies _ _ _ c.self.invariant.1
