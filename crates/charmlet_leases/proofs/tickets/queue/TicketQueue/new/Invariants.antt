use Rattle.charmlet_leases.proofs.tickets.queue.TicketQueue.new.Given as goal

-- the processor of the new queue
abbrev pub ghosts-new_named : goal.ghosts-new_named
ghosts-new_named a = record { processor = a.processor }
