use Rattle.std.proofs.Common.{◌++◌, sym, subst}
use Rattle.charmlet_model.specs.Fit.{AreDistinct}
use Rattle.charmlet_world.proofs.SendsLemmas.{is_new}
use Rattle.charmlet_log_scan.proofs.world.queue.queue_of.Goals as goal

pub push-requires-clause-apart : goal.push-requires-clause-apart
push-requires-clause-apart c =
    let here = subst AreDistinct (sym c.loop-message.invariant.so_far) c.requires in
    is_new c.loop-message.pending.messages _ _
    (subst (λ ms. AreDistinct (c.loop-message.pending.messages ++ ms)) c.in-Some.ensures.steps.0 here)
