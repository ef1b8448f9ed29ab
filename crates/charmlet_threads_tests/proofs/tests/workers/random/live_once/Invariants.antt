use Rattle.charmlet_locks.specs.GhostAuth.Naming.{table_of}
use Rattle.charmlet_history.specs.Kept.{core_in}
use Rattle.charmlet_threads_tests.proofs.tests.workers.random.live_once.Given as goal

-- the authority of shelves that was just made
abbrev pub ghosts-live_named-B-AuthorityName : goal.ghosts-live_named-B-AuthorityName
ghosts-live_named-B-AuthorityName g a = record { table = table_of a.start.authorities.parts }

-- the other two authorities, and the store
abbrev pub ghosts-live_named-B-RuntimeName : goal.ghosts-live_named-B-RuntimeName
ghosts-live_named-B-RuntimeName g a = record {
  seats = table_of a.start.authorities.seats;
  passes = table_of a.start.authorities.passes;
  checkpoints = table_of a.start.authorities.checkpoints;
  opening = (core_in a.start.store.history).opening;
  before = (core_in a.start.store.history).before;
  processors = (core_in a.start.store.history).processors;
  generation = (core_in a.start.store.history).generation;
  honest = ⊥;
}
