-- How many messages each element has received, by a catch-up list as far as it was read.
use Rattle.std.specs.Prelude.{◌≡◌, ℕ, List, unwrap_or}
use Rattle.std.specs.BTreeMap.{is_at}
use Rattle.std.specs.Map.{lookup}
use Rattle.charmlet_model.specs.declared.names.Elem.{Elem}
use Rattle.charmlet_model.specs.declared.state.Record.{Record}
use Rattle.charmlet_model.specs.Names.{elem_cmp}
use Rattle.charmlet_model.specs.World.{record_at}
use Rattle.charmlet_world.specs.declared.element.Element.{Element}
use Rattle.charmlet_world.specs.Seen.{element_at}

-- the count that was read of the element, or else the one that came back with it
abbrev pub count_at : List (Elem × ℕ) → List (Elem × Element) → Elem → ℕ
count_at counts elements x =
    unwrap_or (lookup (is_at (elem_cmp x)) counts) (element_at elements x).received

-- these are the counts of the records
abbrev pub AreCountsOf : List (Elem × ℕ) → List (Elem × Element) → List (Elem × Record) → Type 0
AreCountsOf counts elements records = (x : Elem) →
    count_at counts elements x ≡ (record_at records x).received
