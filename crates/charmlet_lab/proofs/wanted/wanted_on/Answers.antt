use Rattle.std.proofs.Common.{inr, refl}
use Rattle.charmlet_engine.specs.found.Found.{Found}
use Rattle.charmlet_lab.proofs.Causes.{failure_counted}
use Rattle.charmlet_lab.proofs.wanted.wanted_on.Goals as goal

pub returns-in-Err-Device-clause-err : goal.returns-in-Err-Device-clause-err
returns-in-Err-Device-clause-err g c = inr (refl, failure_counted g.D.Disk Found c.args.disk.now c.manifest.new.disk c.in-Err-Device.field-0 c.in-Err-Device.field-0-is c.in-Err-Device.ensures.disk.counted)
