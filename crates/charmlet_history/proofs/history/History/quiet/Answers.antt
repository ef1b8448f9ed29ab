use Rattle.std.proofs.Common.{ap, ◌∙◌}
use Rattle.charmlet_history.specs.Kept.{Kept, core_in, is_quiet}
use Rattle.charmlet_history.specs.Whole.{kept_of}
use Rattle.charmlet_history.proofs.Nexts.{quiet_is}
use Rattle.charmlet_history.proofs.history.History.quiet.Goals as goal

pub returns : goal.returns
returns c = c.quiet.ensures ∙ quiet_is (kept_of c.self.inside) c.self.invariant.consistent ∙ ap (λ (k : Kept). is_quiet (core_in k)) c.self.view_is
