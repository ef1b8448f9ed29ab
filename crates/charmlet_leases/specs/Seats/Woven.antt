-- Lists that are woven into one: each of its items is in one of them, in their order.
use Rattle.std.specs.Prelude.{◌≡◌, ◌⊎◌, List, [], ◌∷◌}

-- Two lists are merged into one: its first item is the first one of either, and its others are
-- what is left, merged.
abbrev pub IsMerged : {A : Type 0} → List A → List A → List A → Type 0
IsMerged xs ys [] = (xs ≡ []) × (ys ≡ [])
IsMerged {A = A} xs ys (z ∷ zs) =
    ((rest : List A) × (xs ≡ z ∷ rest) × IsMerged rest ys zs)
    ⊎ ((rest : List A) × (ys ≡ z ∷ rest) × IsMerged xs rest zs)

-- Several lists are woven into one: it is the first of them, merged with what the others are woven
-- into.
abbrev pub IsWoven : {A : Type 0} → List (List A) → List A → Type 0
IsWoven [] whole = whole ≡ []
IsWoven {A = A} (xs ∷ lists) whole =
    (rest : List A) × IsMerged xs rest whole × IsWoven lists rest
