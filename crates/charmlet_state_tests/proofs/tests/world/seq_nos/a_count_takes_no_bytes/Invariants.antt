use Rattle.charmlet_state_tests.proofs.tests.world.seq_nos.a_count_takes_no_bytes.Given as goal

abbrev pub ghosts-has_no_bytes : goal.ghosts-has_no_bytes
ghosts-has_no_bytes g a = record { name = a.blank.name; parts = a.blank.parts }
