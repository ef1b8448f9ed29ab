use Rattle.charmlet_locks.specs.GhostAuth.Naming.{table_of}
use Rattle.charmlet_state_tests.proofs.tests.history.passes.run.Given as goal

-- the authority that was just made
abbrev pub ghosts-serve : goal.ghosts-serve
ghosts-serve g a = record { table = table_of a.unnamed }
