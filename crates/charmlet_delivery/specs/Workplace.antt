-- What the delivery on one of many processors works on: its workplace.
use Rattle.std.specs.Prelude.{◌≡◌, ℕ, ◌+◌, ◌≤◌, ◌<◌, IfSome, List, None, Result, Ok, Err}
use Rattle.std.specs.BTreeMap.{is_at}
use Rattle.std.specs.List.Sorted.{IsStrictlySortedBy}
use Rattle.std.specs.Map.{keys_of, lookup}
use Rattle.charmlet_model.specs.declared.kind.Kind.{Kind}
use Rattle.charmlet_model.specs.declared.names.Elem.{Elem}
use Rattle.charmlet_model.specs.declared.refusal.Refusal.{Refusal}
use Rattle.charmlet_model.specs.declared.state.Record.{Record}
use Rattle.charmlet_model.specs.Names.{elem_cmp}
use Rattle.charmlet_model.specs.World.{World, record_of}
use Rattle.charmlet_model.specs.Core.{CoreAnswer, Done, Refuses, assigned_to, present}
use Rattle.charmlet_model.specs.Run.{StoreView}
use Rattle.charmlet_model.specs.Shelves.{if_here}
use Rattle.charmlet_chare.specs.declared.chare.Chare.{Ghosts}
use Rattle.charmlet_history.specs.declared.history.History.{History}
use Rattle.charmlet_history.specs.Kept.{core_in}
use Rattle.charmlet_shelf.specs.Count.{objects_on}
use Rattle.charmlet_shelf.specs.Shelf.{View}
use Rattle.charmlet_stock.specs.declared.stock.Stock.{Stock}
use Rattle.charmlet_stock.specs.Stock.{blanks_in, tally_in, supplied_to}
use Rattle.charmlet_delivery.specs.UnderWay.{IsUnderWay, due_in}

-- a history, the shelf of one processor, and a stock
pub record Workplace (C : Type 0) (G : Ghosts C) : Type 0 where
  pub history : History
  pub shelf : View
  pub stock : Stock C G

-- a workplace of these three
abbrev pub workplace_of : {C : Type 0} {G : Ghosts C} → History → View → Stock C G → Workplace C G
workplace_of history shelf stock = record { history = history; shelf = shelf; stock = stock }

-- a history and a stock as a core and blanks
abbrev pub store_with : {C : Type 0} {G : Ghosts C} → History → Stock C G → StoreView
store_with history stock = record { core = core_in history; blanks = blanks_in stock }

-- the answer to a step that answers nothing, or why it is refused
abbrev pub done_or_refused : {T : Type 0} → Result T Refusal → CoreAnswer
done_or_refused (Ok x) = Done
done_or_refused (Err refusal) = Refuses refusal

-- how many objects of each kind are on the shelf, in the stock, or retired
abbrev pub held_in : {C : Type 0} {G : Ghosts C} → View → Stock C G → Kind → ℕ
held_in shelf stock kind = objects_on shelf kind + blanks_in stock kind
    + (tally_in stock kind).retired

-- they were all supplied; others may be elsewhere
abbrev pub IsWithin : {C : Type 0} {G : Ghosts C} → View → Stock C G → Type 0
IsWithin shelf stock = (kind : Kind) → held_in shelf stock kind ≤ supplied_to stock kind

-- the part of `Shows` that is of one shelf: the records are those of the elements whose place is
-- the processor
pub record ShowsOn (processor : ℕ) (records : List (Elem × Record)) (places : List (Elem × ℕ))
    (w : World) : Type 0 where
  pub rising : IsStrictlySortedBy elem_cmp (keys_of records)
  pub shown : (x : Elem) → lookup (is_at (elem_cmp x)) records
      ≡ if_here (lookup (is_at (elem_cmp x)) places) processor (record_of w x)

-- the shelf of one of the processors shows its part of the history's world
pub record ShowsPart (history : History) (shelf : View) : Type 0 where
  pub on : shelf.number < (core_in history).processors
  pub objects : ShowsOn shelf.number shelf.records (core_in history).places
      (present (core_in history))

-- The shelf shows its part of the history's world, a delivery that is under way there is the one
-- that is assigned to its processor, and the objects were supplied.
pub record IsConsistentWorkplace {C : Type 0} {G : Ghosts C}
    (workplace : Workplace C G) : Type 0 where
  pub shelf : ShowsPart workplace.history workplace.shelf
  pub due : IfSome (due_in workplace.shelf.phase)
      (IsUnderWay (core_in workplace.history) workplace.shelf.number)
  pub census : IsWithin workplace.shelf workplace.stock

-- if no delivery is under way on the shelf, nothing is assigned to its processor
abbrev pub IsFreeIfIdle : {C : Type 0} {G : Ghosts C} → Workplace C G → Type 0
IsFreeIfIdle workplace = due_in workplace.shelf.phase ≡ None →
    assigned_to (core_in workplace.history) workplace.shelf.number ≡ None
