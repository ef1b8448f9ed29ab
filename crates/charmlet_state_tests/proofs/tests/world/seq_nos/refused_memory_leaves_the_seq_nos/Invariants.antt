use Rattle.charmlet_state_tests.proofs.tests.world.seq_nos.refused_memory_leaves_the_seq_nos.Given as goal

abbrev pub ghosts-refuse : goal.ghosts-refuse
ghosts-refuse g a = record { name = a.blank.name; parts = a.blank.parts }
