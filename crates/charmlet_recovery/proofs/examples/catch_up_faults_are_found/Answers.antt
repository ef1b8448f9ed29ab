use Rattle.std.proofs.Common.{refl}
use Rattle.charmlet_recovery.proofs.examples.catch_up_faults_are_found.Goals as goal

pub returns : goal.returns
returns c = record { gap = refl; effect = refl; absent = refl; limit = refl; two = refl; skipped = refl; none = refl }
