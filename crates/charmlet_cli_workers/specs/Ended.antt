-- Why the program stops after a run by workers.
use Rattle.charmlet_script_output.specs.declared.exit_reason.ExitReason.{ExitReason}
use Rattle.charmlet_script_output.specs.declared.exit_reason.ExitReason.TheVariants as stops
use Rattle.charmlet_cli_workers.specs.declared.ended.WorkersError.{WorkersError}
use Rattle.charmlet_cli_workers.specs.declared.ended.WorkersError.TheVariants.{Delivers, TooFewBlanks, Memory, NotCreated, NotRestarted, NoSeats, Output, NotClosed}

-- a store that isn't there is told as that, and all else as a program that can't go on
abbrev pub stop_after : {T : Type 0} → WorkersError T → ExitReason
stop_after (NotCreated refusal) = stops.NotCreated refusal
stop_after (NotRestarted refusal) = stops.NotRestarted refusal
stop_after (Delivers objects) = stops.CannotGoOn
stop_after (TooFewBlanks objects) = stops.CannotGoOn
stop_after Memory = stops.CannotGoOn
stop_after NoSeats = stops.CannotGoOn
stop_after (Output error) = stops.CannotGoOn
stop_after NotClosed = stops.CannotGoOn
