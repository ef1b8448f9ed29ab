use Rattle.charmlet_locks.specs.GhostAuth.Naming.{table_of}
use Rattle.charmlet_model.specs.Sound.{new_world}
use Rattle.charmlet_script.specs.Script.{processors_of}
use Rattle.charmlet_cli_workers.proofs.new_run.run_workers.Given as goal

-- the authority of shelves that was just made
abbrev pub ghosts-run_in_new_store-B-AuthorityName : goal.ghosts-run_in_new_store-B-AuthorityName
ghosts-run_in_new_store-B-AuthorityName g a = record { table = table_of a.prepared.authorities.parts }

-- the other authorities, the store that is to be made, and that its disk is honest
abbrev pub ghosts-run_in_new_store-B-RuntimeName : goal.ghosts-run_in_new_store-B-RuntimeName
ghosts-run_in_new_store-B-RuntimeName g a = record {
  seats = table_of a.prepared.authorities.seats;
  passes = table_of a.prepared.authorities.passes;
  checkpoints = table_of a.prepared.authorities.checkpoints;
  opening = new_world a.prepared.manifest;
  before = 0;
  processors = processors_of a.script.now;
  generation = 1;
  honest = g.D.Disk.honest a.disk;
}
