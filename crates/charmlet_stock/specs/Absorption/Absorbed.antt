-- A stock that goes back into another one.
use Rattle.std.specs.Prelude.{◌≡◌, ℕ, ◌+◌, ◌≤◌}
use Rattle.charmlet_model.specs.declared.kind.Kind.{Kind}
use Rattle.charmlet_chare.specs.declared.chare.Chare.{Ghosts}
use Rattle.charmlet_stock.specs.declared.by_kind.ByKind.{ByKind}
use Rattle.charmlet_stock.specs.declared.pile.Tally.{Tally}
use Rattle.charmlet_stock.specs.declared.stock.Stock.{Stock}
use Rattle.charmlet_stock.specs.Stock.{blanks_in, keeping_of, supplied_to, tally_in}

-- how many objects of a kind are retired
abbrev pub retired_in : {C : Type 0} {G : Ghosts C} → Stock C G → Kind → ℕ
retired_in stock kind = (tally_in stock kind).retired

-- how many blanks of all kinds there are
abbrev pub all_blanks : ByKind Tally → ℕ
all_blanks tallies = tallies.counters.in_stock + tallies.rings.in_stock
    + tallies.accounts.in_stock + tallies.sums.in_stock + tallies.trees.in_stock
    + tallies.tapes.in_stock

-- so many objects of the kind as the one stock has are out of the other one
abbrev pub HasRoomThere : {C : Type 0} {G : Ghosts C} → Stock C G → Stock C G → Kind → Type 0
HasRoomThere source stock kind = blanks_in source kind + retired_in source kind
    + blanks_in stock kind + retired_in stock kind ≤ supplied_to stock kind

-- what is retired in the one and was supplied to the other stays, and so does what is kept
pub record KeepsRest {C : Type 0} {G : Ghosts C} (old_source old_stock source stock : Stock C G)
    : Type 0 where
  pub retired : (kind : Kind) → retired_in source kind ≡ retired_in old_source kind
  pub supplied : (kind : Kind) → supplied_to stock kind ≡ supplied_to old_stock kind
  pub keeping : keeping_of source ≡ keeping_of old_source
  pub keeping_there : keeping_of stock ≡ keeping_of old_stock

-- all that the one stock had is in the other one: its blanks, and its retired ones
pub record IsAbsorbed {C : Type 0} {G : Ghosts C} (source old new : Stock C G) : Type 0 where
  pub blanks : (kind : Kind) → blanks_in new kind ≡ blanks_in source kind + blanks_in old kind
  pub retired : (kind : Kind) → retired_in new kind
      ≡ retired_in source kind + retired_in old kind
  pub supplied : (kind : Kind) → supplied_to new kind ≡ supplied_to old kind
  pub keeping : keeping_of new ≡ keeping_of old
