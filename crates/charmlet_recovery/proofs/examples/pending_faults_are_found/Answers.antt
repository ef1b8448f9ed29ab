use Rattle.std.proofs.Common.{refl}
use Rattle.charmlet_recovery.proofs.examples.pending_faults_are_found.Goals as goal

pub returns : goal.returns
returns c = record { none = refl; answered = refl; to_come = refl; of_nobody = refl; of_element = refl; two = refl }
