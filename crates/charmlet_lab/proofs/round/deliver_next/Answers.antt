use Rattle.charmlet_model.specs.declared.step.Answer.TheVariants as answers
use Rattle.charmlet_model.specs.declared.step.Step.TheVariants as steps
use Rattle.charmlet_lab.proofs.Halting.{halts_by_step}
use Rattle.charmlet_lab.proofs.round.deliver_next.Goals as goal

pub returns-in-Refused-clause-counted : goal.returns-in-Refused-clause-counted
returns-in-Refused-clause-counted g c =
    halts_by_step g.D.Disk c.args.engine.now c.step.new.self (steps.Deliver c.in-Some.processor c.in-Some.id) (answers.Refused c.in-Refused.field-0) c.in-Refused.ensures.does c.in-Refused.ensures.counted
