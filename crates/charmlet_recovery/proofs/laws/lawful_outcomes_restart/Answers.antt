use Rattle.charmlet_recovery.proofs.LawfulRestarts.{nothing_is_refused, lawful_lacks_blanks_alone}
use Rattle.charmlet_recovery.proofs.laws.lawful_outcomes_restart.Goals as goal

pub returns : goal.returns
returns c = record { nothing = nothing_is_refused; lawful = lawful_lacks_blanks_alone }
