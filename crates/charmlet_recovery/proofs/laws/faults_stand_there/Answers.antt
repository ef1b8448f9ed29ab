use Rattle.charmlet_recovery.proofs.Offsets.{faults_stand_there}
use Rattle.charmlet_recovery.proofs.Rising.{offsets_rise}
use Rattle.charmlet_recovery.proofs.laws.faults_stand_there.Goals as goal

pub returns : goal.returns
returns c = record { there = faults_stand_there; rise = offsets_rise }
