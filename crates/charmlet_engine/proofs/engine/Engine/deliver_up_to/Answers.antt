use Rattle.std.proofs.Common.{◌∙◌}
use Rattle.charmlet_engine.specs.Engine.{view_of}
use Rattle.charmlet_engine.proofs.Advancing.{advances_after}
use Rattle.charmlet_engine.proofs.InTurn.{drains_more}
use Rattle.charmlet_engine.proofs.engine.Engine.deliver_up_to.Goals as goal

pub returns-in-Err-clause-advances : goal.returns-in-Err-clause-advances
returns-in-Err-clause-advances g c = advances_after g.D.Disk c.args.self.now c.loop-count.self c.deliver_next.new.self c.loop-count.invariant.3 c.deliver_next.ensures.advances

pub returns-in-Ok-false-clause-advances : goal.returns-in-Ok-false-clause-advances
returns-in-Ok-false-clause-advances g c = advances_after g.D.Disk c.args.self.now c.loop-count.self c.deliver_next.new.self c.loop-count.invariant.3 c.deliver_next.ensures.advances

pub loop-count-preserved : goal.loop-count-preserved
loop-count-preserved g c = (
  drains_more (view_of c.args.self.now) (view_of c.loop-count.self) (view_of c.deliver_next.new.self) c.loop-count.count c.in-Ok-true.field-0 c.in-Ok-true.field-0-test c.loop-count.invariant.0 c.in-Ok-true.ensures.delivers,
  c.deliver_next.ensures.supplied ∙ c.loop-count.invariant.1,
  c.deliver_next.ensures.disk ∙ c.loop-count.invariant.2,
  advances_after g.D.Disk c.args.self.now c.loop-count.self c.deliver_next.new.self c.loop-count.invariant.3 c.deliver_next.ensures.advances,
)
