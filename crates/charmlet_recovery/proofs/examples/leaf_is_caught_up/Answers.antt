use Rattle.std.proofs.Common.{refl}
use Rattle.charmlet_recovery.proofs.examples.leaf_is_caught_up.Goals as goal

pub returns : goal.returns
returns c = record { records = refl; caught_up = refl; after = refl; late = refl; early = refl; wanted_late = refl; wanted_early = refl; wanted_other = refl }
