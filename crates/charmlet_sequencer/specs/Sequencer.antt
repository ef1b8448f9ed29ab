-- What is seen of a sequencer.
use Rattle.std.specs.Prelude.{◌≡◌, ℕ, ◌+◌, ◌≤◌}
use Rattle.charmlet_model.specs.declared.kind.Kind.{Kind}
use Rattle.charmlet_model.specs.Core.{Core}
use Rattle.charmlet_model.specs.Run.{StoreView}
use Rattle.charmlet_model.specs.World.{World}
use Rattle.charmlet_disk.specs.File.{CrashBytes}
use Rattle.charmlet_recovery.specs.Outcomes.{IsLawful}
use Rattle.charmlet_shelf.specs.Count.{objects_on}
use Rattle.charmlet_shelf.specs.Shelf.{View}
use Rattle.charmlet_stock.specs.declared.by_kind.ByKind.{ByKind}
use Rattle.charmlet_stock.specs.declared.pile.Tally.{Tally}
use Rattle.charmlet_stock.specs.ByKind.{at}

-- the core, the census of its stock, and the disk that it owns
pub record SequencerShown (D : Type 0) : Type 0 where
  pub core : Core
  pub census : ByKind Tally
  pub disk : D

-- the core is that of a store that opened with this world, after so many events, on so many
-- processors
pub record IsOf (opening : World) (before processors : ℕ) (core : Core) : Type 0 where
  pub opening_is : core.opening ≡ opening
  pub before_is : core.before ≡ before
  pub processors_are : core.processors ≡ processors

-- the core is that of such a store, which opened at this generation, and may be at a later one
pub record HasOpened (opening : World) (before processors generation : ℕ) (core : Core)
    : Type 0 where
  pub of : IsOf opening before processors core
  pub later : generation ≤ core.generation

-- the files recover to the world after some of the core's history, with all that is durable among
-- it
abbrev pub is_lawful : Core → CrashBytes → Type 0
is_lawful core = IsLawful core.opening core.before core.history core.durable

module _ {D : Type 0} where
  -- the sequencer as a core and the blanks of its stock
  abbrev pub store_of : SequencerShown D → StoreView
  store_of sequencer = record {
    core = sequencer.core;
    blanks = λ kind. (at sequencer.census kind).in_stock;
  }

  -- how many objects of each kind were supplied
  abbrev pub supplied_of : SequencerShown D → Kind → ℕ
  supplied_of sequencer kind = (at sequencer.census kind).supplied

  -- how many objects of each kind are on the shelf, in the stock, or retired
  abbrev pub held_with : View → SequencerShown D → Kind → ℕ
  held_with shelf sequencer kind = objects_on shelf kind + (at sequencer.census kind).in_stock
      + (at sequencer.census kind).retired

  -- a call on the sequencer and a shelf loses no object of any kind, and makes none
  pub record KeepsObjects (old new : SequencerShown D) (shelf next : View) : Type 0 where
    pub held : held_with next new ≡ held_with shelf old
    pub supplied : supplied_of new ≡ supplied_of old
