-- Why the program stops, with which exit status, and what it says.
use Rattle.std.specs.Prelude.{ℕ, [], ◌++◌, codes}
use Rattle.std.specs.Fmt.{decimal}
use Rattle.charmlet_model.specs.declared.refusal.Refusal.{Refusal}
use Rattle.charmlet_model.specs.declared.refusal.Refusal.TheVariants.{AlreadyHere, BadPes, Damaged, NothingHere}
use Rattle.charmlet_model.specs.Texts.{Text}
use Rattle.charmlet_script.specs.declared.error.ReadError.{ReadError}
use Rattle.charmlet_script.specs.declared.error.ReadError.TheVariants.{Memory, Failed, Malformed}
use Rattle.charmlet_script_output.specs.declared.exit_reason.ExitReason.{ExitReason}
use Rattle.charmlet_script_output.specs.declared.exit_reason.ExitReason.TheVariants.{CannotGoOn, NotCreated, NotRestarted, NotShown, NotSurvived, AtRefusal, UnreadableScript, MalformedLine}

-- 1 if it can't go on, has no store, shows none, found bad outcomes, or stopped at a refusal, and 2
-- for a script that can't be run
abbrev pub status_of : ExitReason → ℕ
status_of CannotGoOn = 1
status_of (NotCreated refusal) = 1
status_of (NotRestarted refusal) = 1
status_of (NotShown refusal) = 1
status_of NotSurvived = 1
status_of AtRefusal = 1
status_of UnreadableScript = 2
status_of (MalformedLine line) = 2

-- what to do if there is no store for this reason
abbrev pub advice_of : Refusal → Text
advice_of AlreadyHere = codes ": the folder has one; go on with 'charmlet restart DIR SCRIPT'"
advice_of NothingHere = codes ": the folder has none; 'charmlet run SCRIPT --dir DIR' makes one"
advice_of BadPes = codes ": a store has 1 to 64 processors"
advice_of (Damaged half offset) = codes ": see 'Damaged' in docs/OPERATING.md"
advice_of _ = []

-- what is said on standard error, without a line feed
abbrev pub stop_text : ExitReason → Text
stop_text CannotGoOn = codes "cannot go on"
stop_text (NotCreated refusal) = codes "cannot create store" ++ advice_of refusal
stop_text (NotRestarted refusal) = codes "cannot restart store" ++ advice_of refusal
stop_text (NotShown refusal) = codes "cannot show store" ++ advice_of refusal
stop_text NotSurvived = codes "cannot survive each crash"
stop_text AtRefusal = codes "stopped at a refusal"
stop_text UnreadableScript = codes "cannot read script"
stop_text (MalformedLine line) = codes "script line " ++ decimal line

-- the stop for a script that wasn't read
abbrev pub stop_of : ReadError → ExitReason
stop_of Memory = CannotGoOn
stop_of (Failed error) = UnreadableScript
stop_of (Malformed line) = MalformedLine line
