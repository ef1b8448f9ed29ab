use Rattle.std.proofs.Common.{◌≡◌, length}
use Rattle.charmlet_model.specs.declared.kind.Kind.{Kind}
use Rattle.charmlet_model.specs.Shelves.{count_of}
use Rattle.charmlet_stock.specs.Stock.{HasRoomForAll, keeping_of, tally_in}
use Rattle.charmlet_stock.specs.Pile.{supplied_more}
use Rattle.charmlet_stock.proofs.stock.Stock.supply.Given as goal

-- there is room for the others, and with them the sums are what they will be
abbrev pub invariant-loop-object : goal.invariant-loop-object
invariant-loop-object g l =
    HasRoomForAll g.C.Chare.state l.self.piles l.object-iterator.rest.items
    × ((kind : Kind) → supplied_more (tally_in l.self kind) (count_of g.C.Chare.state l.object-iterator.rest.items kind)
    ≡ supplied_more (tally_in l.initial.self kind) (count_of g.C.Chare.state l.initial.object-iterator.rest.items kind))
    × (l.object-iterator.rest.len ≡ length l.object-iterator.rest.items)
    × (keeping_of l.self ≡ keeping_of l.initial.self)
