-- What the sequencer has of a shelf.
use Rattle.std.specs.Prelude.{ℕ, ◌+◌, Bool, false, List, [], Option, Some, None, if◌then◌else◌}
use Rattle.charmlet_model.specs.declared.kind.Kind.{Kind}
use Rattle.charmlet_model.specs.declared.names.Elem.{Elem}
use Rattle.charmlet_model.specs.declared.state.Record.{Record}
use Rattle.charmlet_model.specs.Shelves.{there_in}
use Rattle.charmlet_shelf.specs.Count.{comes_as}
use Rattle.charmlet_shelf.specs.Due.{Due}
use Rattle.charmlet_shelf.specs.Shelf.{View}
use Rattle.charmlet_delivery.specs.UnderWay.{due_in}

-- the records of a shelf's elements before the delivery that is under way there, and that delivery,
-- if one is
pub record Part : Type 0 where
  pub records : List (Elem × Record)
  pub due : Option Due

-- that of a shelf on which nothing stands
abbrev pub no_part : Part
no_part = record { records = []; due = None }

-- that of a shelf
abbrev pub part_on : View → Part
part_on shelf = record { records = shelf.records; due = due_in shelf.phase }

-- the delivery constructs an object of the kind
abbrev pub brings : Kind → Option Due → Bool
brings kind None = false
brings kind (Some due) = comes_as kind due

-- how many objects of the kind are on the shelf, including a newcomer
abbrev pub objects_in : Part → Kind → ℕ
objects_in part kind = there_in part.records kind + (if brings kind part.due then 1 else 0)
