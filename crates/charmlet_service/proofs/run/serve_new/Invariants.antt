use Rattle.charmlet_model.specs.Sound.{new_world}
use Rattle.charmlet_locks.specs.GhostAuth.Naming.{table_of}
use Rattle.charmlet_service.proofs.run.serve_new.Given as goal

-- the authority of shelves that was just made
abbrev pub ghosts-run_new-B-AuthorityName : goal.ghosts-run_new-B-AuthorityName
ghosts-run_new-B-AuthorityName g a = record { table = table_of a.authorities.parts }

-- the other authorities, the store that is to be made, and that its disk is honest
abbrev pub ghosts-run_new-B-RuntimeName : goal.ghosts-run_new-B-RuntimeName
ghosts-run_new-B-RuntimeName g a = record {
  seats = table_of a.authorities.seats;
  passes = table_of a.authorities.passes;
  checkpoints = table_of a.authorities.checkpoints;
  opening = new_world a.manifest;
  before = 0;
  processors = a.processors;
  generation = 1;
  honest = g.D.Disk.honest a.disk;
}
