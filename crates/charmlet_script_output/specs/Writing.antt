-- Lines, and what a call has written of them, even if it fails.
use Rattle.std.specs.Prelude.{◌≡◌, List, [], ◌∷◌, ◌++◌, Option, Result, Ok, Err}
use Rattle.std.specs.Io.KnownBytes.{Appends}
use Rattle.std.specs.List.{flat_map}
use Rattle.charmlet_model.specs.declared.refusal.Refusal.TheVariants.{Memory}
use Rattle.charmlet_model.specs.declared.step.Answer.TheVariants.{Refused}
use Rattle.charmlet_model.specs.Texts.{Text, answer_text}

-- the texts as lines, each with its line feed
abbrev pub in_lines : List Text → Text
in_lines = flat_map (λ text. text ++ 10 ∷ [])

-- the line when out of memory
abbrev pub memory_text : Text
memory_text = answer_text (Refused Memory)

-- known bytes are extended by a beginning of these
abbrev pub AppendsBeginning : (before after : Option Text) → Text → Type 0
AppendsBeginning before after text = (written : Text) × (rest : Text) × (text ≡ written ++ rest)
    × Appends before after written

-- the text is written, or a beginning of it if that fails
abbrev pub Writes : {T E : Type 0} → Result T E → (before after : Option Text) → Text → Type 0
Writes (Ok done) before after text = Appends before after text
Writes (Err error) before after text = AppendsBeginning before after text
