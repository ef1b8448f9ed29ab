use Rattle.charmlet_ready_queue.proofs.seq_nos.seq_nos.SeqNos.take.Given as goal

abbrev pub ghosts-take_counted : goal.ghosts-take_counted
ghosts-take_counted a = record { name = a.blank.name; parts = a.blank.parts }
