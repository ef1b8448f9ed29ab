use Rattle.charmlet_recovery.proofs.Saving.{histories_are_saved, files_of_histories_recover, batches_are_saved, recovered_is_fit}
use Rattle.charmlet_recovery.proofs.laws.histories_are_saved.Goals as goal

pub returns : goal.returns
returns c = record { histories = histories_are_saved; files = files_of_histories_recover; batches = batches_are_saved; fit = recovered_is_fit }
