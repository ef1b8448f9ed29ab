use Rattle.std.proofs.Common.{sym, ◌∙◌}
use Rattle.charmlet_engine.specs.Engine.{view_of}
use Rattle.charmlet_engine.proofs.InTurn.{delivers_still}
use Rattle.charmlet_engine.proofs.engine.Engine.deliver_next.Goals as goal

pub returns-in-Refused-clause-delivers : goal.returns-in-Refused-clause-delivers
returns-in-Refused-clause-delivers g c = (c.in-Some.processor, c.in-Some.id, sym c.next.ensures ∙ c.in-Some.is, c.in-Refused.ensures.does)

pub returns-in-Refused-clause-disk : goal.returns-in-Refused-clause-disk
returns-in-Refused-clause-disk g c = c.step.ensures.still (delivers_still (view_of c.args.self.now) (view_of c.step.new.self) c.in-Some.processor c.in-Some.id c.step.result c.step.ensures.does)
