use Rattle.charmlet_program_tests.proofs.Lacking.{no_run}
use Rattle.charmlet_program_tests.proofs.tests.lab.counters.run_counters.Goals as goal

pub returns-in_err-blanks-clause-err : goal.returns-in_err-blanks-clause-err
returns-in_err-blanks-clause-err g c = no_run g.D.Disk c.args.script.now c.args.disk c.from_residual.result c.from_residual.ensures.1
