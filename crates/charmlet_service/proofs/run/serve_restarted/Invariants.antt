use Rattle.charmlet_locks.specs.GhostAuth.Naming.{table_of}
use Rattle.charmlet_engine.specs.Reopened.{core_to_be}
use Rattle.charmlet_service.proofs.run.serve_restarted.Given as goal

-- the authority of shelves that was just made
abbrev pub ghosts-run_reopened-B-AuthorityName : goal.ghosts-run_reopened-B-AuthorityName
ghosts-run_reopened-B-AuthorityName g a = record { table = table_of a.authorities.parts }

-- the other authorities, what the store is once it goes on, and that its disk is honest
abbrev pub ghosts-run_reopened-B-RuntimeName : goal.ghosts-run_reopened-B-RuntimeName
ghosts-run_reopened-B-RuntimeName g a = record {
  seats = table_of a.authorities.seats;
  passes = table_of a.authorities.passes;
  checkpoints = table_of a.authorities.checkpoints;
  opening = (core_to_be a.reopened).opening;
  before = (core_to_be a.reopened).before;
  processors = (core_to_be a.reopened).processors;
  generation = (core_to_be a.reopened).generation;
  honest = g.D.Disk.honest a.reopened.disk;
}
