-- The objects of one kind.
use Rattle.std.specs.Prelude.{ℕ, ◌+◌, ◌-◌, ◌<◌, ◌≤◌, ◌^◌}
use Rattle.std.specs.Vec.{vec_len, vec_capacity}
use Rattle.charmlet_chare.specs.declared.chare.Chare.{Ghosts}
use Rattle.charmlet_stock.specs.declared.pile.Tally.{Tally}
use Rattle.charmlet_stock.specs.declared.pile.Pile.{Pile}
use Rattle.charmlet_stock.specs.Retired.{dropped_of, kept_of}

-- how many objects were supplied, are in the stock and were retired; the others are out
abbrev pub tally_of : {C : Type 0} {G : Ghosts C} → Pile C G → Tally
tally_of pile = record {
  supplied = pile.supplied;
  in_stock = vec_len pile.objects - kept_of pile.keeps pile.retired;
  retired = pile.retired;
}

-- no object yet
abbrev pub nothing : Tally
nothing = record { supplied = 0; in_stock = 0; retired = 0 }

-- some object is out
abbrev pub IsOut : Tally → Type 0
IsOut t = t.in_stock + t.retired < t.supplied

-- n more objects were supplied
abbrev pub supplied_more : Tally → ℕ → Tally
supplied_more t n = record t { supplied = t.supplied + n; in_stock = t.in_stock + n }

-- n blanks went out
abbrev pub with_out : Tally → ℕ → Tally
with_out t n = record t { in_stock = t.in_stock - n }

-- one blank came back
abbrev pub with_one_back : Tally → Tally
with_one_back t = record t { in_stock = t.in_stock + 1 }

-- one object that was out was retired
abbrev pub with_one_retired : Tally → Tally
with_one_retired t = record t { retired = t.retired + 1 }

-- the retired objects are blanks again
abbrev pub with_retired_back : Tally → Tally
with_retired_back t = record t { in_stock = t.in_stock + t.retired; retired = 0 }

-- room for that many more objects, and for all that are out
abbrev pub HasRoomFor : {C : Type 0} {G : Ghosts C} → Pile C G → ℕ → Type 0
HasRoomFor pile n = (pile.supplied + n ≤ vec_capacity pile.objects
    + dropped_of pile.keeps pile.retired) × (pile.supplied + n < 2 ^ 64)
