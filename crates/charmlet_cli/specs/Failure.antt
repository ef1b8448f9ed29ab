-- How the program ends.
use Rattle.std.specs.Prelude.{ℕ, [], ◌∷◌, Option, Result, Ok, Err}
use Rattle.std.specs.Io.KnownBytes.{Appends}
use Rattle.charmlet_model.specs.Texts.{Text}
use Rattle.charmlet_cli.specs.declared.command.CommandError.{CommandError}
use Rattle.charmlet_cli.specs.declared.command.CommandError.TheVariants as commands
use Rattle.charmlet_cli.specs.declared.exit.Failure.{Failure}
use Rattle.charmlet_cli.specs.declared.exit.Failure.TheVariants.{Command, Stopped}
use Rattle.charmlet_script_output.specs.declared.exit_reason.ExitReason.TheVariants as stops
use Rattle.charmlet_script_output.specs.Writing.{in_lines}
use Rattle.charmlet_script_output.specs.ExitReason.{status_of, stop_text}

-- the failure of a command line that asks for nothing
abbrev pub failure_of : CommandError → Failure
failure_of commands.Memory = Stopped stops.CannotGoOn
failure_of (commands.Line error) = Command error

-- 2 for a bad command line or a call for help, otherwise the stop's
abbrev pub failure_status : Failure → ℕ
failure_status (Command error) = 2
failure_status (Stopped stop) = status_of stop

-- 0 if the script ran to its end
abbrev pub exit_status : {T : Type 0} → Result T Failure → ℕ
exit_status (Ok done) = 0
exit_status (Err failure) = failure_status failure

-- a stop is said in a line; what clap says isn't specified
abbrev pub Says : Failure → (before after : Option Text) → Type 0
Says (Command error) before after = Unit {0}
Says (Stopped stop) before after = Appends before after (in_lines (stop_text stop ∷ []))
