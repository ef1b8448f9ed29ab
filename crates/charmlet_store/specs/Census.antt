-- The census of a store.
use Rattle.charmlet_model.specs.declared.kind.Kind.{Kind}
use Rattle.charmlet_stock.specs.ByKind.{at}
use Rattle.charmlet_store.specs.declared.census.Census.{Census}
use Rattle.charmlet_store.specs.Store.{StoreShown, world_in}
use Rattle.charmlet_store.specs.There.{there_of}

-- what is counted of a kind: on the shelves are as many as elements are there
abbrev pub census_in : StoreShown → Kind → Census
census_in store kind = record {
  supplied = (at store.census kind).supplied;
  on_shelves = there_of (world_in store) kind;
  in_stock = (at store.census kind).in_stock;
  retired = (at store.census kind).retired;
}
