-- What a dump prints.
use Rattle.std.specs.Prelude.{◌≡◌, ℕ, List, [], ◌∷◌, Option, Result, Ok, Err, IsOk}
use Rattle.std.specs.Io.KnownBytes.{Appends}
use Rattle.charmlet_model.specs.declared.refusal.Refusal.{Refusal}
use Rattle.charmlet_model.specs.Texts.{Text}
use Rattle.charmlet_dump.specs.declared.dump.DumpError.{DumpError}
use Rattle.charmlet_dump.specs.declared.dump.DumpError.TheVariants as errors
use Rattle.charmlet_dump.specs.declared.found.Found.{Found}
use Rattle.charmlet_dump.specs.declared.output.Form.{Form}
use Rattle.charmlet_dump.specs.Facts.{Fact, Refused, world_facts}
use Rattle.charmlet_dump.specs.Lines.{lines_of}
use Rattle.charmlet_dump.specs.Writing.{AppendsBeginning}

-- the facts of what is found on this number of processors, or why nothing is
abbrev pub facts_of : ℕ → Result Found Refusal → List Fact
facts_of processors (Ok found) =
    world_facts processors found.generation found.events found.world
facts_of processors (Err refusal) = Refused refusal ∷ []

-- the lines of these facts are written, and the call is refused if nothing is found; or a beginning
-- of them is written, and the output failed
abbrev pub IsSaid : {T : Type 0} → Form → ℕ → Result Found Refusal → Result T DumpError →
    (before after : Option Text) → Type 0
IsSaid form processors answer (Ok done) before after = IsOk answer
    × Appends before after (lines_of form (facts_of processors answer))
IsSaid form processors answer (Err (errors.Refused refusal)) before after = (answer ≡ Err refusal)
    × Appends before after (lines_of form (facts_of processors answer))
IsSaid form processors answer (Err (errors.Output error)) before after =
    AppendsBeginning before after (lines_of form (facts_of processors answer))
