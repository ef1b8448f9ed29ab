use Rattle.charmlet_model.specs.Shelves.{count_of}
use Rattle.std.proofs.Common.{subst}
use Rattle.charmlet_stock.specs.declared.by_kind.ByKind.{ByKind}
use Rattle.charmlet_stock.specs.declared.pile.Pile.{Pile}
use Rattle.charmlet_stock.specs.ByKind.{at}
use Rattle.charmlet_stock.specs.Pile.{HasRoomFor}
use Rattle.charmlet_stock.specs.Stock.{HasRoomForAll}
use Rattle.charmlet_stock.proofs.Room.{each_kind}
use Rattle.charmlet_stock.proofs.stock.Stock.reserve.Goals as goal
use Rattle.std.proofs.lemmas.Result.{on_ok_weaker}

pub returns-clause-ok : goal.returns-clause-ok
returns-clause-ok g c =
    let state = g.C.Chare.state in
    let piles : ByKind (Pile g.row.C.Denot g.C.Chare) = record { counters = c.reserve.new.self; rings = c.reserve-2.new.self; accounts = c.reserve-3.new.self; sums = c.reserve-4.new.self; trees = c.reserve-5.new.self; tapes = c.reserve-6.new.self } in
    on_ok_weaker {Q = HasRoomForAll state piles c.args.blanks.now} c.reserve-6.result
    (λ last. each_kind (λ kind. HasRoomFor (at piles kind) (count_of state c.args.blanks.now kind))
    (subst (HasRoomFor c.reserve.new.self) c.count_of.ensures c.in_ok-reserve.ensures.ok)
    (subst (HasRoomFor c.reserve-2.new.self) c.count_of-2.ensures c.in_ok-reserve-2.ensures.ok)
    (subst (HasRoomFor c.reserve-3.new.self) c.count_of-3.ensures c.in_ok-reserve-3.ensures.ok)
    (subst (HasRoomFor c.reserve-4.new.self) c.count_of-4.ensures c.in_ok-reserve-4.ensures.ok)
    (subst (HasRoomFor c.reserve-5.new.self) c.count_of-5.ensures c.in_ok-reserve-5.ensures.ok)
    (subst (HasRoomFor c.reserve-6.new.self) c.count_of-6.ensures last))
    c.reserve-6.ensures.ok
