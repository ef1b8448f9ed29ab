use Rattle.std.proofs.Common.{◌++◌, sym, subst}
use Rattle.charmlet_model.specs.Fit.{AreDistinct}
use Rattle.charmlet_world.proofs.scheduler.Scheduler.of.Goals as goal
use Rattle.charmlet_world.proofs.SendsLemmas.{is_new}

pub push-requires-clause-apart : goal.push-requires-clause-apart
push-requires-clause-apart c =
    let here = subst AreDistinct (sym c.loop-message.invariant.so_far) c.requires.distinct in
    is_new c.loop-message.scheduler.pending _ _
    (subst (λ ms. AreDistinct (c.loop-message.scheduler.pending ++ ms)) c.in-Some.ensures.steps.0 here)
