use Rattle.charmlet_recovery.proofs.Stored.{stored_is_recovered, recovered_was_stored, stored_is_one}
use Rattle.charmlet_recovery.proofs.laws.stored_is_recovered.Goals as goal

pub returns : goal.returns
returns c = record { recovered = stored_is_recovered; stored = recovered_was_stored; one = stored_is_one }
