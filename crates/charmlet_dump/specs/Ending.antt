-- How the program ends.
use Rattle.std.specs.Prelude.{ℕ, [], ◌∷◌, ◌++◌, codes, Option, Result, Ok, Err}
use Rattle.std.specs.Io.KnownBytes.{Appends}
use Rattle.charmlet_model.specs.Texts.{Text}
use Rattle.charmlet_dump.specs.declared.dump.DumpError.{DumpError}
use Rattle.charmlet_dump.specs.declared.dump.DumpError.TheVariants as errors
use Rattle.charmlet_dump.specs.declared.exit.Failure.{Failure}
use Rattle.charmlet_dump.specs.declared.exit.Failure.TheVariants.{BadLine, NotDumped, CannotGoOn}
use Rattle.charmlet_dump.specs.Arguments.{bad_in}
use Rattle.charmlet_dump.specs.Usage.{bad_text}

-- the failure of a dump with this error
abbrev pub failure_of : DumpError → Failure
failure_of (errors.Refused refusal) = NotDumped
failure_of (errors.Output error) = CannotGoOn

-- 2 for a bad command line or a call for help, otherwise 1
abbrev pub failure_status : Failure → ℕ
failure_status (BadLine bad) = 2
failure_status NotDumped = 1
failure_status CannotGoOn = 1

-- 0 if the store was dumped
abbrev pub exit_status : {T : Type 0} → Result T Failure → ℕ
exit_status (Ok done) = 0
exit_status (Err failure) = failure_status failure

-- what is said on standard error, without a line feed
abbrev pub failure_text : Failure → Text
failure_text (BadLine bad) = bad_text (bad_in bad)
failure_text NotDumped = codes "cannot dump store"
failure_text CannotGoOn = codes "cannot go on"

-- a failure is said in a line
abbrev pub Says : Failure → (before after : Option Text) → Type 0
Says failure before after = Appends before after (failure_text failure ++ 10 ∷ [])
