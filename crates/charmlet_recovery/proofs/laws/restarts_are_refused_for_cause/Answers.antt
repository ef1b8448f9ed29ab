use Rattle.charmlet_recovery.proofs.Restarting.{least_short_is_found, restarts_are_taken, restarts_are_refused_for_cause, found_lacks_blanks_alone}
use Rattle.charmlet_recovery.proofs.laws.restarts_are_refused_for_cause.Goals as goal

pub returns : goal.returns
returns c = record { short = least_short_is_found; taken = restarts_are_taken; cause = restarts_are_refused_for_cause; blanks = found_lacks_blanks_alone }
