-- Elements that move between processors.
use Rattle.std.specs.Prelude.{◌≡◌, ℕ, ◌+◌, List, None, map, sum_by}
use Rattle.charmlet_model.specs.declared.kind.Kind.{Kind}
use Rattle.charmlet_model.specs.declared.names.Elem.{Elem}
use Rattle.charmlet_model.specs.declared.state.Record.{Record}
use Rattle.charmlet_model.specs.Core.{assigned_to, present}
use Rattle.charmlet_model.specs.Shelves.{AddsUp, Shows}
use Rattle.charmlet_chare.specs.declared.chare.Chare.{Ghosts}
use Rattle.charmlet_delivery.specs.history.History.{History}
use Rattle.charmlet_delivery.specs.Kept.{core_in}
use Rattle.charmlet_shelf.specs.Count.{objects_on}
use Rattle.charmlet_shelf.specs.Shelf.{View}
use Rattle.charmlet_shelf.specs.declared.phase.Phase.TheVariants.{Idle}
use Rattle.charmlet_stock.specs.declared.stock.Stock.{Stock}
use Rattle.charmlet_stock.specs.Stock.{blanks_in, supplied_to, tally_in}
use Rattle.charmlet_delivery.specs.Workplace.{ShowsPart, held_in}

-- ---- all shelves

-- the records on each shelf
abbrev pub records_on : List View → List (List (Elem × Record))
records_on = map (λ (shelf : View). shelf.records)

-- no delivery is under way on the shelf
abbrev pub IsIdle : View → Type 0
IsIdle shelf = shelf.phase ≡ Idle

-- how many objects of a kind are on all shelves
abbrev pub objects_among : List View → Kind → ℕ
objects_among shelves kind = sum_by (λ shelf. objects_on shelf kind) shelves

-- the shelves show the present world, each element on the shelf of its place
abbrev pub ShowsPresent : List View → History → Type 0
ShowsPresent shelves history = Shows (records_on shelves)
    (core_in history).places (present (core_in history))

-- of each kind, what was supplied is on the shelves, in the stock, or retired
abbrev pub IsCountedAmong : {C : Type 0} {G : Ghosts C} → List View → Stock C G → Type 0
IsCountedAmong shelves stock = AddsUp (supplied_to stock) (objects_among shelves) (blanks_in stock)
    (λ kind. (tally_in stock kind).retired)

-- ---- two of them

-- The shelf shows its part of the history's world, and a delivery is under way on it only where a
-- message is assigned to its processor.
pub record IsShelfOf (history : History) (shelf : View) : Type 0 where
  pub part : ShowsPart history shelf
  pub idle : assigned_to (core_in history) shelf.number ≡ None → shelf.phase ≡ Idle

-- how many objects of each kind are on two shelves, in the stock, or retired
abbrev pub held_in_both : {C : Type 0} {G : Ghosts C} → View → View → Stock C G → Kind → ℕ
held_in_both source destination stock kind = objects_on source kind
    + held_in destination stock kind
