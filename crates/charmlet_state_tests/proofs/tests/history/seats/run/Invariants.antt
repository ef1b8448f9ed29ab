use Rattle.charmlet_locks.specs.GhostAuth.Naming.{table_of}
use Rattle.charmlet_state_tests.proofs.tests.history.seats.run.Given as goal

-- the authority that was just made
abbrev pub ghosts-work-B-AuthorityName : goal.ghosts-work-B-AuthorityName
ghosts-work-B-AuthorityName g a = record { table = table_of a.unnamed }

-- over two processors
abbrev pub ghosts-work-B-SeatTableName : goal.ghosts-work-B-SeatTableName
ghosts-work-B-SeatTableName g a = record { processors = 2 }
