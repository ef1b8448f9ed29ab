use Rattle.charmlet_disk.specs.contracts.any_disk.AnyDiskDisk.TheImpl.{ghosts}
use Rattle.charmlet_cli.specs.Wanted.{blanks_in}
use Rattle.charmlet.proofs.Lacking.{some_judged, some_restart}
use Rattle.charmlet.proofs.lab_tasks.LabRestartTask.begin.Goals as goal

pub returns : goal.returns
returns g c = record {
  ok = some_judged ghosts c.args.self.script.now c.args.self.disk c.args.self.events.now c.args.self.durable (blanks_in c.args.self.wanted.now) _ c.lab_outcome.result c.lab_outcome.ensures.enough c.lab_outcome.ensures.ok;
  err = some_restart ghosts c.args.self.script.now c.args.self.disk (blanks_in c.args.self.wanted.now) _ c.lab_outcome.result c.lab_outcome.ensures.err;
}
