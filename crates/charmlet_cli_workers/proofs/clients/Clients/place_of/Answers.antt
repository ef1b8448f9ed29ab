use Rattle.charmlet_script_output.proofs.Results.{on_err}
use Rattle.charmlet_cli_workers.proofs.Hearing.{same_passes}
use Rattle.charmlet_cli_workers.proofs.clients.Clients.place_of.Goals as goal

pub lend-requires-clause-none : goal.lend-requires-clause-none
lend-requires-clause-none g c κs within = c.find.ensures.none c.in-None.is

pub returns-in-Some-clause-later : goal.returns-in-Some-clause-later
returns-in-Some-clause-later g c = same_passes c.args.self.now.passes.items

pub returns-in-None-clause-none : goal.returns-in-None-clause-none
returns-in-None-clause-none g c = on_err c.lend.result (c.find.ensures.none c.in-None.is)
