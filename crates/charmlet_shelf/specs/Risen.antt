-- Entries in any order, and in rising order of their elements.
use Rattle.std.specs.Prelude.{◌≡◌, ◌<◌, ℕ, List, [], ◌∷◌, length, slice_get, Some}
use Rattle.std.specs.BTreeMap.{insert_entry, is_at}
use Rattle.std.specs.Map.{lookup}
use Rattle.charmlet_model.specs.declared.names.Elem.{Elem}
use Rattle.charmlet_model.specs.Names.{elem_cmp}

-- the same entries, their elements rising: the list that a tree of them would be
abbrev pub risen : {X : Type 0} → List (Elem × X) → List (Elem × X)
risen [] = []
risen (e ∷ es) = insert_entry elem_cmp (risen es) e.0 e.1

-- the element's entry, with this value, stands at the index
pub record StandsAt {X : Type 0} (entries : List (Elem × X)) (x : Elem) (i : ℕ) : Type 0 where
  pub value : X
  pub within : i < length entries
  pub entry : slice_get entries i ≡ Some (x, value)
  pub found : lookup (is_at (elem_cmp x)) (risen entries) ≡ Some value
