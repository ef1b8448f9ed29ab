-- A store that is taken apart.
use Rattle.std.specs.Prelude.{◌≡◌, ◌<◌, ℕ, true, List, is_some, length, map}
use Rattle.std.specs.BTreeMap.{is_at}
use Rattle.std.specs.Map.{lookup, remove_entry}
use Rattle.charmlet_model.specs.declared.names.Elem.{Elem}
use Rattle.charmlet_model.specs.declared.state.Record.{Record}
use Rattle.charmlet_model.specs.declared.state.State.{State}
use Rattle.charmlet_model.specs.Names.{elem_cmp}
use Rattle.charmlet_model.specs.Shelves.{AddsUp, count_of, objects_of}
use Rattle.charmlet_model.specs.World.{World, record_of}
use Rattle.charmlet_chare.specs.declared.chare.Chare.{Ghosts}
use Rattle.charmlet_shelf.specs.Shelf.{View}
use Rattle.charmlet_stock.specs.Stock.{blanks_in, supplied_to, tally_in}
use Rattle.charmlet_migrate.specs.Copying.{shelf_at, with_records}
use Rattle.charmlet_store.specs.declared.dismantled.Dismantled.{Dismantled}

-- of each kind, what was supplied is among the residents, in the stock, or retired
abbrev pub IsCountedIn : {C : Type 0} {G : Ghosts C} → (C → State) → Dismantled C G → Type 0
IsCountedIn state parts =
    AddsUp (supplied_to parts.stock) (count_of state (objects_of parts.residents.items))
    (blanks_in parts.stock) (λ kind. (tally_in parts.stock kind).retired)

-- the elements that have a place, each with its record
abbrev pub standing : World → List (Elem × ℕ) → List (Elem × Record)
standing w = map (λ e. (e.0, record_of w e.0))

-- the element is on the shelf of the processor
pub record IsOnShelf (shelves : List View) (x : Elem) (processor : ℕ) : Type 0 where
  pub within : processor < length shelves
  pub here : is_some (lookup (is_at (elem_cmp x)) (shelf_at shelves processor).records) ≡ true

-- the shelves without an element of a processor's
abbrev pub without : List View → Elem → ℕ → List View
without shelves x processor = with_records shelves processor
    (remove_entry (is_at (elem_cmp x)) (shelf_at shelves processor).records)
