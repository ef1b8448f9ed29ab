use Rattle.std.proofs.Common.{sym, subst, ◌∙◌}
use Rattle.charmlet_model.specs.Fit.{IsFit}
use Rattle.charmlet_state_tests.proofs.OpeningFit.{opening_fit}
use Rattle.charmlet_state_tests.proofs.tests.history.opening.opened.Goals as goal

pub of-requires : goal.of-requires
of-requires c = subst IsFit (sym c.in_ok-parts.ensures) opening_fit

pub open-requires-clause-fit : goal.open-requires-clause-fit
open-requires-clause-fit c = subst IsFit (sym (c.in_ok-opening.ensures.world ∙ c.in_ok-parts.ensures)) opening_fit
