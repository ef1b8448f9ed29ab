-- The stock.
use Rattle.std.specs.Prelude.{ℕ, Bool, ◌==◌, List, if◌then◌else◌}
use Rattle.charmlet_model.specs.declared.kind.Kind.{Kind}
use Rattle.charmlet_model.specs.declared.state.State.{State}
use Rattle.charmlet_model.specs.Kind.{kind_number}
use Rattle.charmlet_model.specs.Shelves.{count_of}
use Rattle.charmlet_chare.specs.declared.chare.Chare.{Ghosts}
use Rattle.charmlet_stock.specs.declared.by_kind.ByKind.{ByKind}
use Rattle.charmlet_stock.specs.declared.pile.Tally.{Tally}
use Rattle.charmlet_stock.specs.declared.pile.Pile.{Pile}
use Rattle.charmlet_stock.specs.declared.stock.Stock.{Stock}
use Rattle.charmlet_stock.specs.ByKind.{at, each_of}
use Rattle.charmlet_stock.specs.Pile.{HasRoomFor, tally_of}

-- what the census says of the stock: for each kind, how many objects were supplied, are in the
-- stock and were retired
abbrev pub census_of : {C : Type 0} {G : Ghosts C} → Stock C G → ByKind Tally
census_of stock = each_of tally_of stock.piles

-- the census of one kind
abbrev pub tally_in : {C : Type 0} {G : Ghosts C} → Stock C G → Kind → Tally
tally_in stock kind = at (census_of stock) kind

-- whether retired objects are kept, for each kind
abbrev pub keeping_of : {C : Type 0} {G : Ghosts C} → Stock C G → ByKind Bool
keeping_of stock = each_of (λ pile. pile.keeps) stock.piles

-- how many blanks of a kind there are
abbrev pub blanks_in : {C : Type 0} {G : Ghosts C} → Stock C G → Kind → ℕ
blanks_in stock kind = (tally_in stock kind).in_stock

-- how many objects of a kind were supplied
abbrev pub supplied_to : {C : Type 0} {G : Ghosts C} → Stock C G → Kind → ℕ
supplied_to stock kind = (tally_in stock kind).supplied

-- `count` of one kind
abbrev pub part_of : Kind → ℕ → Kind → ℕ
part_of kind count k = if kind_number k == kind_number kind then count else 0

-- room for these objects
abbrev pub HasRoomForAll : {C : Type 0} {G : Ghosts C} → (C → State) → ByKind (Pile C G) →
    List C → Type 0
HasRoomForAll state piles objects = (kind : Kind) → HasRoomFor (at piles kind)
    (count_of state objects kind)
