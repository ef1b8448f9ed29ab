use Rattle.std.proofs.Common.{ap, ◌∙◌}
use Rattle.charmlet_reference.specs.Recovery.Views.{files}
use Rattle.charmlet_reference.specs.Recovery.Written.{gone_on}
use Rattle.charmlet_reference.proofs.RecoveryLemmas.Versions.{goes_on}
use Rattle.charmlet_reference.proofs.recovery.recovered.recover.Goals as goal

pub returns : goal.returns
returns c = c.gone_on.ensures ∙ ap gone_on c.in_ok-written.ensures ∙ goes_on (files c.args.zero.now c.args.one.now)
