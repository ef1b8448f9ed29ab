use Rattle.charmlet_service.proofs.run.serve_restarted.Goals as goal

pub returns-in_default : goal.returns-in_default
returns-in_default g c = c.into_refused.ensures.restarts c.args.processors c.args.blanks c.args.disk c.in-Ok.ensures.ok

pub returns-in-Ok-new : goal.returns-in-Ok-new
returns-in-Ok-new g c = c.run_reopened.ensures c.args.processors c.args.blanks c.args.disk c.in-Ok.ensures.ok

pub returns-in-Err : goal.returns-in-Err
returns-in-Err g c = c.in-Err.ensures.refused
