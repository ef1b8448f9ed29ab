use Rattle.charmlet_ready_queue.proofs.index.index.Index.next.Given as goal

abbrev pub ghosts-next_counted : goal.ghosts-next_counted
ghosts-next_counted a = record { name = a.blank.name; parts = a.blank.parts }
