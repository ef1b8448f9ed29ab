use Rattle.charmlet_recovery.proofs.FirstFaults.{places, faults-stay}
use Rattle.charmlet_recovery.proofs.laws.faults_are_places.Goals as goal

pub returns : goal.returns
returns c = record { places = places; stay = faults-stay }
