use Rattle.std.proofs.Common.{ap, ◌∙◌}
use Rattle.charmlet_history.specs.Kept.{Kept, core_in, next_in}
use Rattle.charmlet_history.specs.Whole.{kept_of}
use Rattle.charmlet_history.proofs.Nexts.{next_is}
use Rattle.charmlet_history.proofs.history.History.next_in.Goals as goal

pub returns-clause-next : goal.returns-clause-next
returns-clause-next g c = c.next_in.ensures.next ∙ next_is (kept_of c.self.inside) c.self.invariant.consistent ∙ ap (λ (k : Kept). next_in (core_in k)) c.self.view_is
