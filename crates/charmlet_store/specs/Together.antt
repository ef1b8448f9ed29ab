-- What is seen of a store.
use Rattle.std.specs.Prelude.{◌≡◌}
use Rattle.charmlet_chare.specs.declared.chare.Chare.{Ghosts}
use Rattle.charmlet_history.specs.declared.history.History.{History}
use Rattle.charmlet_stock.specs.declared.stock.Stock.{Stock}
use Rattle.charmlet_stock.specs.Stock.{census_of, keeping_of}
use Rattle.charmlet_store.specs.Store.{StoreShown}

-- what is seen of a store with this history and this stock
abbrev pub shown_by : {C : Type 0} {G : Ghosts C} → History → Stock C G → StoreShown
shown_by history stock = record {
  history = history;
  census = census_of stock;
  keeping = keeping_of stock;
}
