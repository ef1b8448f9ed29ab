-- What is kept of the elements, in the order in which they came.
use Rattle.std.specs.Prelude.{ℕ, Bool, ◌&&◌, List, [], ◌∷◌, ◌++◌, Option, Some, None, unwrap_or, is_none, is_some, nat_lt, if◌then◌else◌}
use Rattle.std.specs.BTreeMap.{insert_entry}
use Rattle.std.specs.Map.{lookup}
use Rattle.charmlet_model.specs.declared.names.Elem.{Elem}
use Rattle.charmlet_model.specs.Names.{elem_cmp, same_elem}
use Rattle.charmlet_world.specs.declared.element.Element.{Element}

-- the elements in the order in which they came, and how many more there is room for
pub record Standing : Type 0 where
  pub entries : List (Elem × Element)
  pub room : ℕ

-- an element that was never constructed
abbrev pub no_element : Element
no_element = record { place = None; sent = 0; received = 0 }

-- what is kept of the element
abbrev pub element_in : List (Elem × Element) → Elem → Element
element_in entries x = unwrap_or (lookup (same_elem x) entries) no_element

-- an entry for the element, if it had none
abbrev pub with_row : List (Elem × Element) → Elem → List (Elem × Element)
with_row entries x = if is_some (lookup (same_elem x) entries) then entries else entries
    ++ (x, no_element) ∷ []

-- the same entries, their keys rising: the list that a tree of them would be
abbrev pub risen : List (Elem × Element) → List (Elem × Element)
risen [] = []
risen (e ∷ es) = insert_entry elem_cmp (risen es) e.0 e.1

-- ---- places

-- the element has this place, if it has one
abbrev pub with_place : Elem → Option ℕ → List (Elem × ℕ) → List (Elem × ℕ)
with_place x None places = places
with_place x (Some place) places = (x, place) ∷ places

-- the elements that have a place, each with its place
abbrev pub places_of : List (Elem × Element) → List (Elem × ℕ)
places_of [] = []
places_of (e ∷ es) = with_place e.0 e.1.place (places_of es)

-- ---- elements that have left a record

-- the element isn't there, and has received a message
abbrev pub is_left : Element → Bool
is_left e = is_none e.place && nat_lt 0 e.received

-- the elements that aren't there, and have received a message
abbrev pub left_of : List (Elem × Element) → List (Elem × Element)
left_of [] = []
left_of (e ∷ es) = if is_left e.1 then e ∷ left_of es else left_of es
