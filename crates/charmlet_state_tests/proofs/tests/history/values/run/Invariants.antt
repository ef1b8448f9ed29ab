use Rattle.charmlet_locks.specs.GhostAuth.Naming.{table_of}
use Rattle.charmlet_state_tests.proofs.tests.history.values.run.Given as goal

-- the authority that was just made
abbrev pub ghosts-change_all : goal.ghosts-change_all
ghosts-change_all a = record { table = table_of a.unnamed }
