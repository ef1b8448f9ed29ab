use Rattle.charmlet_disk.specs.contracts.any_disk.AnyDiskDisk.TheImpl.{ghosts}
use Rattle.charmlet.proofs.Lacking.{some_run}
use Rattle.charmlet.proofs.lab_tasks.LabRunTask.begin.Goals as goal

pub returns : goal.returns
returns g c = record {
  ok = c.lab_round.ensures.ok;
  ran = c.lab_round.ensures.ran;
  processors = c.lab_round.ensures.processors;
  err = some_run ghosts c.args.self.script.now c.args.self.disk _ c.lab_round.result c.lab_round.ensures.err;
}
