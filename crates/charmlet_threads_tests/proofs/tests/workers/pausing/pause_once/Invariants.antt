use Rattle.charmlet_locks.specs.GhostAuth.Naming.{table_of}
use Rattle.charmlet_engine.specs.Engine.{core_of}
use Rattle.charmlet_threads_tests.proofs.tests.workers.pausing.pause_once.Given as goal

-- the authority of shelves that was just made
abbrev pub ghosts-pause_named-B-AuthorityName : goal.ghosts-pause_named-B-AuthorityName
ghosts-pause_named-B-AuthorityName g a = record { table = table_of a.authorities.parts }

-- the other two authorities, and the engine's store
abbrev pub ghosts-pause_named-B-RuntimeName : goal.ghosts-pause_named-B-RuntimeName
ghosts-pause_named-B-RuntimeName g a = record {
  seats = table_of a.authorities.seats;
  passes = table_of a.authorities.passes;
  checkpoints = table_of a.authorities.checkpoints;
  opening = (core_of a.begun).opening;
  before = (core_of a.begun).before;
  processors = (core_of a.begun).processors;
  generation = (core_of a.begun).generation;
  honest = ⊥;
}
