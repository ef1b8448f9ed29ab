-- What a call that shows a store prints.
use Rattle.std.specs.Prelude.{◌≡◌, List, [], ◌∷◌, Option, Result, Ok, Err, IsOk}
use Rattle.std.specs.Io.KnownBytes.{Appends}
use Rattle.charmlet_model.specs.declared.refusal.Refusal.{Refusal}
use Rattle.charmlet_model.specs.declared.step.Answer.TheVariants as answers
use Rattle.charmlet_model.specs.Texts.{Text, answer_text}
use Rattle.charmlet_engine.specs.found.Found.{Found}
use Rattle.charmlet_cli.specs.declared.show.Listed.{Listed}
use Rattle.charmlet_cli.specs.declared.show.ShowError.{ShowError}
use Rattle.charmlet_cli.specs.declared.show.ShowError.TheVariants.{Refused, Output}
use Rattle.charmlet_script_output.specs.declared.exit_reason.ExitReason.{ExitReason}
use Rattle.charmlet_script_output.specs.declared.exit_reason.ExitReason.TheVariants as stops
use Rattle.charmlet_cli.specs.FoundLines.{found_texts}
use Rattle.charmlet_script_output.specs.Writing.{in_lines, AppendsBeginning}

-- what is found, without its list of arrays
abbrev pub found_of : Result Listed Refusal → Result Found Refusal
found_of (Ok listed) = Ok listed.found
found_of (Err refusal) = Err refusal

-- the lines of what is found, or the line of the refusal
abbrev pub texts_of : Result Found Refusal → List Text
texts_of (Ok f) = found_texts f
texts_of (Err refusal) = answer_text (answers.Refused refusal) ∷ []

-- these lines are written, and the call is refused if nothing is found; or a beginning of them is
-- written, and the output failed
abbrev pub IsSaid : {T : Type 0} → Result Found Refusal → Result T ShowError →
    (before after : Option Text) → Type 0
IsSaid answer (Ok done) before after = IsOk answer
    × Appends before after (in_lines (texts_of answer))
IsSaid answer (Err (Refused refusal)) before after = (answer ≡ Err refusal)
    × Appends before after (in_lines (texts_of answer))
IsSaid answer (Err (Output error)) before after =
    AppendsBeginning before after (in_lines (texts_of answer))

-- why the program stops after it
abbrev pub stop_shown : ShowError → ExitReason
stop_shown (Refused refusal) = stops.NotShown refusal
stop_shown (Output error) = stops.CannotGoOn
