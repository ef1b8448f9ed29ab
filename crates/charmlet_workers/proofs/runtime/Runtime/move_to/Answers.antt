use Rattle.charmlet_workers.proofs.Causes.{cause_is_one}
use Rattle.charmlet_workers.proofs.runtime.Runtime.move_to.Goals as goal

pub returns-in-Err-clause-err : goal.returns-in-Err-clause-err
returns-in-Err-clause-err g c = cause_is_one c.args.self.now c.args.elem c.args.processor c.in-Err.refusal c.in-Err.ensures.cause

pub returns-in-Err-carry-clause-err : goal.returns-in-Err-carry-clause-err
returns-in-Err-carry-clause-err g c = cause_is_one c.args.self.now c.args.elem c.args.processor c.in-Err-carry.refusal (c.in-Err-carry.ensures.cause c.args.processor)

pub returns-in-Err-carry-clause-cause : goal.returns-in-Err-carry-clause-cause
returns-in-Err-carry-clause-cause g c = c.in-Err-carry.ensures.cause c.args.processor
