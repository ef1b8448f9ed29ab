use Rattle.charmlet_model.specs.Core.{Flush}
use Rattle.charmlet_history.specs.Kept.{core_in, counts_or_refused, plenty}
use Rattle.charmlet_state_tests.proofs.tests.history.passes.flush.Goals as goal

pub returns-clause-current : goal.returns-clause-current
returns-clause-current g c =
    c.steps_keep_passes.ensures c.args._table.now (core_in c.args.history.now) plenty Flush (record { answer = counts_or_refused c.flush.result; core = core_in c.flush.new.self; blanks = plenty })
    c.facts.ensures.sound tt tt (c.flush.ensures.steps plenty) c.requires
