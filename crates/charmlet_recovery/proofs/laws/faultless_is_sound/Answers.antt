use Rattle.charmlet_recovery.proofs.Values.{faultless-sound}
use Rattle.charmlet_recovery.proofs.laws.faultless_is_sound.Goals as goal

pub returns : goal.returns
returns c = faultless-sound
