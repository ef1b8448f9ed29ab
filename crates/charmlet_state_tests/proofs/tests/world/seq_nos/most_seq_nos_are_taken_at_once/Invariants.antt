use Rattle.charmlet_state_tests.proofs.tests.world.seq_nos.most_seq_nos_are_taken_at_once.Given as goal

abbrev pub ghosts-run : goal.ghosts-run
ghosts-run g a = record { name = a.blank.name; parts = a.blank.parts }
