use Rattle.std.proofs.Common.{refl}
use Rattle.charmlet_recovery.proofs.examples.event_faults_are_found.Goals as goal

pub returns : goal.returns
returns c = record { none = refl; count = refl; effect = refl; sends = refl; not_pending = refl; out_of_turn = refl; absent = refl; two = refl; limit = refl }
