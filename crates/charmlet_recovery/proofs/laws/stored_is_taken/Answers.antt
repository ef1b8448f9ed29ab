use Rattle.charmlet_recovery.proofs.Files.{stored_is_taken, spelled_is_superseded, taken_was_stored}
use Rattle.charmlet_recovery.proofs.Stored.{recovered_is_taken, closed_recovers_to_nothing, nothing_was_closed}
use Rattle.charmlet_recovery.proofs.laws.stored_is_taken.Goals as goal

pub returns : goal.returns
returns c = record { taken = stored_is_taken; superseded = spelled_is_superseded; stored = taken_was_stored; recovered = recovered_is_taken; closed = closed_recovers_to_nothing; nothing = nothing_was_closed }
