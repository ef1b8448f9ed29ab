-- Where elements stand.
use Rattle.std.specs.Prelude.{◌≡◌, ◌&&◌, ℕ, Bool, List, Some, None, nat_le, if◌then◌else◌}
use Rattle.std.specs.BTreeMap.{is_at}
use Rattle.std.specs.List.{list_any}
use Rattle.std.specs.Map.{lookup}
use Rattle.charmlet_model.specs.declared.names.Elem.{Elem}
use Rattle.charmlet_model.specs.Names.{elem_cmp, same_elem}
use Rattle.charmlet_model.specs.Core.{home}

-- a store has 1 to 64 processors
abbrev pub is_processor_count : ℕ → Bool
is_processor_count processors = nat_le 1 processors && nat_le processors 64

-- an element is one of these
abbrev pub is_among : Elem → List Elem → Bool
is_among x elems = list_any (same_elem x) elems

-- each of these elements stands at its home, and no other stands anywhere
abbrev pub AreAtHome : ℕ → List Elem → List (Elem × ℕ) → Type 0
AreAtHome processors elems places = (x : Elem) → lookup (is_at (elem_cmp x)) places
    ≡ (if is_among x elems then Some (home x processors) else None)
