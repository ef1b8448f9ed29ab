use Rattle.std.proofs.Common.{◌++◌, sym, subst}
use Rattle.charmlet_model.specs.Fit.{AreDistinct}
use Rattle.charmlet_model.specs.World.{numbered}
use Rattle.charmlet_world.proofs.sends.push_sends.Goals as goal
use Rattle.charmlet_world.proofs.SendsLemmas.{is_new}

pub push-requires-clause-apart : goal.push-requires-clause-apart
push-requires-clause-apart c =
    let here = subst AreDistinct (sym c.loop-send.invariant.pushed) c.requires.distinct in
    is_new c.loop-send.scheduler.pending _ _
    (subst (λ ss. AreDistinct (c.loop-send.scheduler.pending ++ numbered c.args.from c.loop-send.number ss)) c.in-Some.ensures.steps.0 here)
