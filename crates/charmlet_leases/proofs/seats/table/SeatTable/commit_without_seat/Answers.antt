use Rattle.std.proofs.Common.{◌≡◌, List, [], ◌∷◌, ◌++◌, sym, subst, rules}
use Rattle.charmlet_model.specs.declared.names.MsgId.{MsgId}
use Rattle.charmlet_leases.specs.Seats.Seats.{HaveAll}
use Rattle.charmlet_leases.specs.Seats.Woven.{IsMerged}
use Rattle.charmlet_leases.proofs.SeatsLemmas.Weaving.{merged-left}
use Rattle.charmlet_leases.proofs.seats.table.SeatTable.commit_without_seat.Goals as goal

pub returns-clause-all : goal.returns-clause-all
returns-clause-all g c = λ deliveries h.
    let own = c.self.inside.own.items in
    let id = c.args.id in
    let pushed : c.push.new.self.items ≡ own ++ id ∷ [] = search rules in
    let was : HaveAll (record { out = c.self.inside.out.items; own = c.self.inside.own; lists = c.self.inside.authority }) deliveries = subst (λ k. HaveAll k deliveries) (sym c.self.view_is) h in
    (was.0, subst (λ (l : List MsgId). IsMerged l was.0 (deliveries ++ id ∷ [])) (sym pushed) (merged-left own was.0 deliveries id was.1), was.2)
