use Rattle.std.proofs.Common.{ap, ◌∙◌}
use Rattle.charmlet_history.specs.Kept.{Kept, core_in, oldest_on_in}
use Rattle.charmlet_history.specs.Whole.{kept_of}
use Rattle.charmlet_history.proofs.Nexts.{oldest_on_is}
use Rattle.charmlet_history.proofs.history.History.oldest_on.Goals as goal

pub returns-clause-oldest : goal.returns-clause-oldest
returns-clause-oldest g c = c.oldest_on.ensures.oldest ∙ oldest_on_is (kept_of c.self.inside) c.self.invariant.consistent c.args.processor ∙ ap (λ (k : Kept). oldest_on_in (core_in k) c.args.processor) c.self.view_is
