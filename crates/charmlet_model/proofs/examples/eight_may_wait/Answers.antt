use Rattle.std.proofs.Common.{refl}
use Rattle.charmlet_model.proofs.examples.eight_may_wait.Goals as goal

pub returns : goal.returns
returns c = (refl, refl, refl, refl, refl, refl, refl, refl, refl, refl, refl, refl)
