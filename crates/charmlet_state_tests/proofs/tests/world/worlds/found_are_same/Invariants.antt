use Rattle.charmlet_state_tests.proofs.tests.world.worlds.found_are_same.Given as goal

abbrev pub ghosts-oldest_on : goal.ghosts-oldest_on
ghosts-oldest_on g a = record { name = a.blank.name; parts = a.blank.parts }
