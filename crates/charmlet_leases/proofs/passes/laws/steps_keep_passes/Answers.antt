use Rattle.charmlet_leases.proofs.PassesLemmas.OtherSteps.{steps_keep}
use Rattle.charmlet_leases.proofs.passes.laws.steps_keep_passes.Goals as goal

pub returns : goal.returns
returns c = steps_keep
