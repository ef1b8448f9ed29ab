use Rattle.charmlet_recovery.proofs.Values.{histories, flushes}
use Rattle.charmlet_recovery.proofs.laws.histories_recover.Goals as goal

pub returns : goal.returns
returns c = record { plain = histories; appended = flushes }
