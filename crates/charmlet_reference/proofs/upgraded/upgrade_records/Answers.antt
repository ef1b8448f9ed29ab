use Rattle.std.proofs.Common.{rules}
use Rattle.charmlet_reference.proofs.Upgrades.{retained}
use Rattle.charmlet_reference.proofs.upgraded.upgrade_records.Goals as goal

pub returns : goal.returns
returns c = retained _ (λ f elem old keeps new g call. search rules) _ _ _ c.retain.ensures.filtered
