-- What the entries of an image need.
use Rattle.std.proofs.Common.{◌≡◌, ◌≤◌, Bool, true, false, List, [], ◌∷◌, length, refl, arith}
use Rattle.std.specs.Prelude.{is_some, ◌&&◌, option_map, Some, None}
use Rattle.charmlet_model.specs.declared.names.Elem.{Elem}
use Rattle.charmlet_model.specs.declared.kind.Kind.{Kind}
use Rattle.charmlet_model.specs.declared.state.Record.{Record}
use Rattle.charmlet_model.specs.Unpacked.{state_at}
use Rattle.charmlet_record.specs.Reading.{Kinds}
use Rattle.charmlet_image.specs.declared.entries.Entry.{Entry}
use Rattle.charmlet_image.specs.Reading.{kind_version_in}
use Rattle.charmlet_image.specs.Views.{entry_said}
use Rattle.charmlet_recovery.specs.Blanks.{array_is, one_if, wanted_by_records}

at_most_one : (b : Bool) → one_if b ≤ 1
at_most_one true = omega arith
at_most_one false = omega arith

-- no records need more blanks than there are
pub few_of_records : (manifest : Kinds) (kind : Kind) (records : List (Elem × Record)) → wanted_by_records manifest kind records ≤ length records
few_of_records manifest kind [] = omega arith
few_of_records manifest kind (e ∷ es) = omega (arith, at_most_one (is_some e.1.state && array_is manifest kind e.0.array), few_of_records manifest kind es)

-- an entry has an object where its record has a state
pub still_some : (manifest : Kinds) (e : Entry) → is_some e.packed ≡ is_some (entry_said manifest e).1.state
still_some manifest e = elim e.packed as (λ o. is_some o ≡ is_some (option_map (λ packed. state_at (kind_version_in manifest e.element.array) packed.now) o)) [
  | None ↦ refl
  | Some packed ↦ refl
]
