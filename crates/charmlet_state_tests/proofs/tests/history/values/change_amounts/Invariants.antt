use Rattle.charmlet_state_tests.proofs.tests.history.values.change_amounts.Given as goal

-- a value that no code has
abbrev pub ghosts-change_to : goal.ghosts-change_to
ghosts-change_to g a = record { value = record { count = 4 } }
