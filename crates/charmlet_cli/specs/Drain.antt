-- What a drain prints.
use Rattle.std.specs.Prelude.{ℕ, List, [], ◌∷◌, length, Option, Some, None}
use Rattle.charmlet_model.specs.declared.refusal.Refusal.{Refusal}
use Rattle.charmlet_model.specs.declared.step.Answer.TheVariants.{Refused}
use Rattle.charmlet_model.specs.Core.{present}
use Rattle.charmlet_model.specs.Run.{StoreView}
use Rattle.charmlet_model.specs.Texts.{Text, answer_text}
use Rattle.charmlet_script.specs.Printed.{drained_text}

-- how many messages it delivered, and how many are then pending
abbrev pub drain_text : ℕ → StoreView → Text
drain_text k last = drained_text
    (record { delivered = k; left = length (present last.core).pending })

-- what it prints: that, and the refusal that stopped it, if one did
abbrev pub drain_texts : ℕ → StoreView → Option Refusal → List Text
drain_texts k last None = drain_text k last ∷ []
drain_texts k last (Some refusal) = drain_text k last ∷ answer_text (Refused refusal) ∷ []
