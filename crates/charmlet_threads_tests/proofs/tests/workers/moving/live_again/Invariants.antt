use Rattle.charmlet_locks.specs.GhostAuth.Naming.{table_of}
use Rattle.charmlet_engine.specs.Reopened.{core_to_be}
use Rattle.charmlet_threads_tests.proofs.tests.workers.moving.live_again.Given as goal

-- the authority of shelves that was just made
abbrev pub ghosts-live_again_named-B-AuthorityName : goal.ghosts-live_again_named-B-AuthorityName
ghosts-live_again_named-B-AuthorityName g a = record { table = table_of a.authorities.parts }

-- the other authorities, and what the store is once it goes on
abbrev pub ghosts-live_again_named-B-RuntimeName : goal.ghosts-live_again_named-B-RuntimeName
ghosts-live_again_named-B-RuntimeName g a = record {
  seats = table_of a.authorities.seats;
  passes = table_of a.authorities.passes;
  checkpoints = table_of a.authorities.checkpoints;
  opening = (core_to_be a.reopened).opening;
  before = (core_to_be a.reopened).before;
  processors = (core_to_be a.reopened).processors;
  generation = (core_to_be a.reopened).generation;
  honest = ⊥;
}
