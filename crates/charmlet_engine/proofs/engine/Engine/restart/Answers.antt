use Rattle.charmlet_engine.proofs.engine.Engine.restart.Goals as goal

pub returns-in-Ok-clause-remembers : goal.returns-in-Ok-clause-remembers
returns-in-Ok-clause-remembers g c = (c.resume.ensures.restarts c.args.processors c.args.blanks c.args.disk c.in-Ok.ensures.ok).remembers

pub returns-in-Ok-clause-lawful : goal.returns-in-Ok-clause-lawful
returns-in-Ok-clause-lawful g c = (c.resume.ensures.restarts c.args.processors c.args.blanks c.args.disk c.in-Ok.ensures.ok).lawful

pub returns-in-Ok-clause-leaves : goal.returns-in-Ok-clause-leaves
returns-in-Ok-clause-leaves g c = (c.resume.ensures.restarts c.args.processors c.args.blanks c.args.disk c.in-Ok.ensures.ok).leaves
