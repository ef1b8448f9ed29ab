use Rattle.charmlet_recover.specs.Wanted.{blanks_in}
use Rattle.charmlet_program_tests.proofs.Lacking.{no_restart, some_restart}
use Rattle.charmlet_program_tests.proofs.tests.lab.counters.restart_counters.Goals as goal

pub returns-in_err-blanks-clause-err : goal.returns-in_err-blanks-clause-err
returns-in_err-blanks-clause-err g c = no_restart g.D.Disk c.args.script.now c.args.disk (blanks_in c.args.wanted.now) c.from_residual.result c.from_residual.ensures.1

pub returns-clause-err : goal.returns-clause-err
returns-clause-err g c = some_restart g.D.Disk c.args.script.now c.args.disk (blanks_in c.args.wanted.now) _ c.lab_outcome.result c.lab_outcome.ensures.err
