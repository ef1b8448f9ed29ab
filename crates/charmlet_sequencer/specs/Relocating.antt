-- Moves of elements between two shelves.
use Rattle.std.specs.Prelude.{◌≡◌, ◌≢◌, ℕ, ◌+◌, ◌<◌, Option, Some, None}
use Rattle.std.specs.BTreeMap.{is_at}
use Rattle.std.specs.Map.{remove_entry}
use Rattle.charmlet_model.specs.declared.kind.Kind.{Kind}
use Rattle.charmlet_model.specs.declared.names.Elem.{Elem}
use Rattle.charmlet_model.specs.Core.{Core, Done, Move, place_of}
use Rattle.charmlet_model.specs.Names.{elem_cmp}
use Rattle.charmlet_model.specs.Run.{Goes, StoreView}
use Rattle.charmlet_shelf.specs.Count.{objects_on}
use Rattle.charmlet_shelf.specs.Shelf.{View}
use Rattle.charmlet_migrate.specs.Copying.{PlacesCopy}
use Rattle.charmlet_migrate.specs.Moving.{IsIdle}
use Rattle.charmlet_sequencer.specs.Sequencer.{SequencerShown, held_with, supplied_of}

-- the element stands on the one processor, and not on the other, which is one too
pub record IsAway (core : Core) (x : Elem) (place processor : ℕ) : Type 0 where
  pub stands : place_of core x ≡ Some place
  pub within : place < core.processors
  pub apart : place ≢ processor
  pub there : processor < core.processors

-- a move of the element to the processor is done, since it is there already, or has to take it away
-- from this place
abbrev pub StaysOrLeaves : StoreView → Elem → ℕ → Option ℕ → Type 0
StaysOrLeaves store x processor None = Goes store (Move x processor) Done store
StaysOrLeaves store x processor (Some place) = IsAway store.core x place processor

-- Of two shelves with no delivery under way, the element's record leaves the one and comes to the
-- other. All else stays.
pub record Carries (x : Elem) (from to left come : View) : Type 0 where
  pub from_idle : IsIdle from
  pub to_idle : IsIdle to
  pub leaves : left ≡ record from { records = remove_entry (is_at (elem_cmp x)) from.records }
  pub comes : PlacesCopy x from to come

module _ {D : Type 0} where
  -- how many objects of each kind are on two shelves, in the stock, or retired
  abbrev pub held_with_both : View → View → SequencerShown D → Kind → ℕ
  held_with_both from to sequencer kind = objects_on from kind + held_with to sequencer kind

  -- a call on the sequencer and two shelves loses no object, and makes none
  pub record KeepsObjectsOfBoth (old new : SequencerShown D)
      (from to left come : View) : Type 0 where
    pub held : held_with_both left come new ≡ held_with_both from to old
    pub supplied : supplied_of new ≡ supplied_of old
