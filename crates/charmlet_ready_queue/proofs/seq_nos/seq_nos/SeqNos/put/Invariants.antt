use Rattle.charmlet_ready_queue.proofs.seq_nos.seq_nos.SeqNos.put.Given as goal

abbrev pub ghosts-put_counted : goal.ghosts-put_counted
ghosts-put_counted a = record { name = a.blank.name; parts = a.blank.parts }
