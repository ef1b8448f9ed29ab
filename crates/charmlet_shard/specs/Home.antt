-- Elements that stand on the shelves of their homes.
use Rattle.std.specs.Prelude.{◌≡◌, ℕ, ◌==◌, List, length, if◌then◌else◌, Option, None}
use Rattle.std.specs.BTreeMap.{is_at}
use Rattle.std.specs.List.{All, AllByRecursion}
use Rattle.std.specs.List.Sorted.{IsStrictlySortedBy}
use Rattle.std.specs.Map.{keys_of, lookup}
use Rattle.charmlet_model.specs.declared.names.Elem.{Elem}
use Rattle.charmlet_model.specs.declared.state.Record.{Record}
use Rattle.charmlet_model.specs.Names.{elem_cmp}
use Rattle.charmlet_model.specs.World.{record_at}
use Rattle.charmlet_model.specs.Core.{home}
use Rattle.charmlet_model.specs.Shelves.{if_there, shelf_of}
use Rattle.charmlet_shelf.specs.Shelf.{View}
use Rattle.charmlet_migrate.specs.Moving.{IsIdle, records_on}
use Rattle.charmlet_migrate.specs.StoreParts.{AreNumbered}

-- what stands of an element on the shelf of a processor: its record, if it is there and its home is
-- there
abbrev pub at_home : ℕ → List (Elem × Record) → ℕ → Elem → Option Record
at_home processors records processor x = if home x processors == processor
    then if_there (record_at records x) else None

-- There is a shelf for each processor, with no delivery under way; and each element that is there
-- stands on that of its home, with its record.
pub record AreHome (processors : ℕ) (records : List (Elem × Record))
    (shelves : List View) : Type 0 where
  pub count : length shelves ≡ processors
  pub numbers : AreNumbered shelves
  pub idle : All IsIdle shelves
  pub rising : AllByRecursion (λ (on : List (Elem × Record)). IsStrictlySortedBy elem_cmp
      (keys_of on)) (records_on shelves)
  pub shown : (processor : ℕ) (x : Elem) → lookup (is_at (elem_cmp x))
      (shelf_of (records_on shelves) processor) ≡ at_home processors records processor x
