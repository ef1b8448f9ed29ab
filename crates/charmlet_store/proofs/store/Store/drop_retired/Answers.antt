use Rattle.std.proofs.Common.{ap, ◌∙◌}
use Rattle.charmlet_store.specs.Store.{store_in, supplied_in}
use Rattle.charmlet_history.specs.Kept.{core_in}
use Rattle.charmlet_store.proofs.Upgrades.{dropped_blanks, dropped_consistent, dropped_supplied}
use Rattle.charmlet_store.proofs.store.Store.drop_retired.Goals as goal

pub invariant_of-self : goal.invariant_of-self
invariant_of-self g c = dropped_consistent c.self.inside c.drop_retired.new.self c.drop_retired.ensures.census c.self.invariant

pub returns-clause-same : goal.returns-clause-same
returns-clause-same g c =
    (λ i. record { core = core_in c.self.inside.history; blanks = dropped_blanks c.self.inside c.drop_retired.new.self c.drop_retired.ensures.census i }) ∙ ap store_in c.self.view_is

pub returns-clause-supplied : goal.returns-clause-supplied
returns-clause-supplied g c = dropped_supplied c.self.inside c.drop_retired.new.self c.drop_retired.ensures.census ∙ ap supplied_in c.self.view_is
