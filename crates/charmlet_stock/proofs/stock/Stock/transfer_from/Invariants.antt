use Rattle.std.proofs.Common.{◌≡◌, ◌-◌}
use Rattle.charmlet_stock.specs.ByKind.{at, with_at}
use Rattle.charmlet_stock.specs.Stock.{census_of, keeping_of, tally_in}
use Rattle.charmlet_stock.specs.Pile.{HasRoomFor, supplied_more, with_out}
use Rattle.charmlet_stock.proofs.stock.Stock.transfer_from.Given as goal

-- so many were drawn until now, and there is room for the others
abbrev pub invariant-loop : goal.invariant-loop
invariant-loop g l =
    HasRoomFor (at l.self.piles l.kind) (l.count - l.counter)
    × (census_of l.self ≡ with_at (census_of l.initial.self) l.kind (supplied_more (tally_in l.initial.self l.kind) l.counter))
    × (census_of l.source ≡ with_at (census_of l.initial.source) l.kind (with_out (tally_in l.initial.source l.kind) l.counter))
    × (keeping_of l.self ≡ keeping_of l.initial.self)
    × (keeping_of l.source ≡ keeping_of l.initial.source)
