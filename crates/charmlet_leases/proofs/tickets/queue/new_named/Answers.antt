use Rattle.std.proofs.Common.{◌≡◌, None, rules}
use Rattle.crossbeam_queue.specs.Passes.{view}
use Rattle.charmlet_leases.proofs.TicketsLemmas.Moves.{names}
use Rattle.charmlet_leases.proofs.tickets.queue.new_named.Goals as goal

pub another-other-requires-clause-rule : goal.another-other-requires-clause-rule
another-other-requires-clause-rule g c =
    let none : view c.in_ok-queue.token ≡ None = search rules in
    names c.in_ok-queue.token.id g.N.ProcessorName.processor (view c.in_ok-queue.token) none
