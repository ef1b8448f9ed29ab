-- The sequencer's authority of shelves.
use Rattle.std.specs.Prelude.{◌≡◌, ◌<◌, ℕ, List, Option, Some, None, get_or, length, map, sum_by}
use Rattle.charmlet_model.specs.declared.kind.Kind.{Kind}
use Rattle.charmlet_model.specs.declared.names.Elem.{Elem}
use Rattle.charmlet_model.specs.declared.state.Record.{Record}
use Rattle.charmlet_model.specs.Core.{Core, assigned_to, present}
use Rattle.charmlet_model.specs.Shelves.{AddsUp, Shows}
use Rattle.charmlet_chare.specs.declared.chare.Chare.{Ghosts}
use Rattle.charmlet_history.specs.declared.history.History.{History}
use Rattle.charmlet_history.specs.Kept.{core_in}
use Rattle.charmlet_shelf.specs.Due.{Due}
use Rattle.charmlet_stock.specs.declared.stock.Stock.{Stock}
use Rattle.charmlet_stock.specs.declared.by_kind.ByKind.{ByKind}
use Rattle.charmlet_stock.specs.declared.pile.Tally.{Tally}
use Rattle.charmlet_stock.specs.ByKind.{at}
use Rattle.charmlet_stock.specs.Stock.{blanks_in, supplied_to, tally_in}
use Rattle.charmlet_delivery.specs.UnderWay.{IsUnderWay}
use Rattle.charmlet_sequencer.specs.Part.{Part, no_part, objects_in}

-- the part of a shelf, or nothing once its fragment was taken back
abbrev pub part_in : Option Part → Part
part_in None = no_part
part_in (Some part) = part

-- the part of a processor's shelf
abbrev pub part_at : List (Option Part) → ℕ → Part
part_at parts processor = part_in (get_or parts processor None)

-- the records on each shelf
abbrev pub records_in : List (Option Part) → List (List (Elem × Record))
records_in parts = map (λ o. (part_in o).records) parts

-- how many objects of the kind are on all shelves
abbrev pub objects_in_all : List (Option Part) → Kind → ℕ
objects_in_all parts kind = sum_by (λ o. objects_in (part_in o) kind) parts

-- this delivery is under way on the processor, or nothing is assigned to it
abbrev pub IsDueOn : Core → ℕ → Option Due → Type 0
IsDueOn core processor None = assigned_to core processor ≡ None
IsDueOn core processor (Some due) = IsUnderWay core processor due

-- The authority has a part for each processor: the records, by the history's world, of the elements
-- that stand there, and the delivery that is assigned to it. Of each kind, what was supplied is on
-- the shelves, in the stock, or retired.
pub record IsAuthorityOf {C : Type 0} {G : Ghosts C} (history : History) (stock : Stock C G)
    (parts : List (Option Part)) : Type 0 where
  pub count : length parts ≡ (core_in history).processors
  pub shows : Shows (records_in parts) (core_in history).places (present (core_in history))
  pub dues : (processor : ℕ) → processor < length parts →
      IsDueOn (core_in history) processor (part_at parts processor).due
  pub census : AddsUp (supplied_to stock) (objects_in_all parts) (blanks_in stock)
      (λ kind. (tally_in stock kind).retired)

-- the same of a core and a census
pub record IsAuthorityIn (core : Core) (census : ByKind Tally) (parts : List (Option Part))
    : Type 0 where
  pub count : length parts ≡ core.processors
  pub shows : Shows (records_in parts) core.places (present core)
  pub dues : (processor : ℕ) → processor < length parts →
      IsDueOn core processor (part_at parts processor).due
  pub counted : AddsUp (λ kind. (at census kind).supplied) (objects_in_all parts)
      (λ kind. (at census kind).in_stock) (λ kind. (at census kind).retired)
