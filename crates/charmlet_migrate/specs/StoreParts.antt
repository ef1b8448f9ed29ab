-- What a store is made of, and what always holds of it.
use Rattle.std.specs.Prelude.{◌≡◌, ℕ, ◌<◌, List, get_or, length}
use Rattle.std.specs.List.{All}
use Rattle.charmlet_chare.specs.declared.chare.Chare.{Ghosts}
use Rattle.charmlet_delivery.specs.history.History.{History}
use Rattle.charmlet_delivery.specs.Kept.{core_in}
use Rattle.charmlet_shelf.specs.Shelf.{View}
use Rattle.charmlet_stock.specs.declared.stock.Stock.{Stock}
use Rattle.charmlet_migrate.specs.Moving.{IsCountedAmong, IsIdle, ShowsPresent}

-- each shelf is that of the processor whose number is its place in the list
abbrev pub AreNumbered : List View → Type 0
AreNumbered shelves = (processor : ℕ) (shelf : View) → processor < length shelves →
    (get_or shelves processor shelf).number ≡ processor

-- There is a shelf for each processor, with no delivery under way; the shelves show the present
-- world of the history; and the census adds up.
pub record FitTogether {C : Type 0} {G : Ghosts C} (history : History) (shelves : List View)
    (stock : Stock C G) : Type 0 where
  pub count : length shelves ≡ (core_in history).processors
  pub numbers : AreNumbered shelves
  pub idle : All IsIdle shelves
  pub objects : ShowsPresent shelves history
  pub census : IsCountedAmong shelves stock
