-- What is seen of a store.
use Rattle.std.specs.Prelude.{◌≡◌, ℕ, ◌<◌, Bool, List, get_or, length}
use Rattle.charmlet_model.specs.declared.kind.Kind.{Kind}
use Rattle.charmlet_model.specs.declared.kind_version.KindVersion.{KindVersion}
use Rattle.charmlet_model.specs.World.{World}
use Rattle.charmlet_model.specs.Core.{Core, present}
use Rattle.charmlet_model.specs.Run.{StoreView}
use Rattle.charmlet_model.specs.Sound.{new_world, opened}
use Rattle.charmlet_history.specs.Kept.{Kept, core_in}
use Rattle.charmlet_shelf.specs.Shelf.{View}
use Rattle.charmlet_stock.specs.declared.by_kind.ByKind.{ByKind}
use Rattle.charmlet_stock.specs.declared.pile.Tally.{Tally}
use Rattle.charmlet_stock.specs.ByKind.{at}
use Rattle.charmlet_migrate.specs.Copying.{empty_shelf}

-- what its history keeps, how many objects of each kind there are, and of which kinds it keeps the
-- retired ones
pub record StoreShown : Type 0 where
  pub history : Kept
  pub census : ByKind Tally
  pub keeping : ByKind Bool

-- nothing has happened in the store, and nothing came before its opening world
pub record IsNew (core : Core) : Type 0 where
  pub manifest : List (ℕ × KindVersion)
  pub log_end : ℕ
  pub is : core ≡ opened core.processors (new_world manifest) 0 1 log_end

-- how many blanks of each kind there are
abbrev pub blanks_of : StoreShown → Kind → ℕ
blanks_of store kind = (at store.census kind).in_stock

-- the store as a core and the blanks of its stock
abbrev pub store_in : StoreShown → StoreView
store_in store = record {
  core = core_in store.history;
  blanks = blanks_of store;
}

-- how many objects of each kind were supplied
abbrev pub supplied_in : StoreShown → Kind → ℕ
supplied_in store kind = (at store.census kind).supplied

-- the world after the whole history
abbrev pub world_in : StoreShown → World
world_in store = present (core_in store.history)

-- so many of them, one of each processor
pub record AreEmpty (processors : ℕ) (shelves : List View) : Type 0 where
  pub count : length shelves ≡ processors
  pub empty : (processor : ℕ) (shelf : View) → processor < processors →
      get_or shelves processor shelf ≡ empty_shelf processor
