use Rattle.charmlet_state_tests.proofs.tests.world.seq_nos.seq_nos_are_put_and_taken_at_random.Given as goal

abbrev pub ghosts-run : goal.ghosts-run
ghosts-run g a = record { name = a.blank.name; parts = a.blank.parts }
