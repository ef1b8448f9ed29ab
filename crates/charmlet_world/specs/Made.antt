-- Entries that are made one after another.
use Rattle.std.specs.Prelude.{List, [], ◌∷◌}
use Rattle.std.specs.declared.cmp.Ordering.{Ordering}
use Rattle.std.specs.BTreeMap.{insert_entry}

-- each of these entries is inserted, with a value made of it
abbrev pub with_made : {K X Y : Type 0} → (K → K → Ordering) → (K → X → Y) → List (K × Y) →
    List (K × X) → List (K × Y)
with_made cmp make made [] = made
with_made cmp make made (e ∷ es) = with_made cmp make (insert_entry cmp made e.0 (make e.0 e.1)) es

-- the value as it is
abbrev pub as_it_is : {K X : Type 0} → K → X → X
as_it_is key value = value
