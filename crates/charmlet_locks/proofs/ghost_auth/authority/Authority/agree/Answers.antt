use Rattle.std.proofs.Common.{ap, ◌∙◌, sym, refl, rules}
use Rattle.charmlet_locks.proofs.GhostAuthLemmas.Moves.{joins, compares, splits, fragment_holds}
use Rattle.charmlet_locks.proofs.ghost_auth.authority.Authority.agree.Goals as goal

pub join_seat-requires : goal.join_seat-requires
join_seat-requires g c =
    let holds = fragment_holds c.fragment.inside.badge.views c.into_seat.result.me.0 c.fragment.invariant.1 (search rules) in
    (search rules, search rules, search rules, search rules, joins c.self.inside.seat.id c.self.inside.seat.me.0 c.into_seat.result.id c.into_seat.result.me.0 c.self.invariant.4 holds)

pub load-requires : goal.load-requires
load-requires g c =
    let told = c.join_seat.ensures.2 in
    (search rules, search rules, compares c.join_seat.new.seat.id c.join_seat.new.seat.me c.self.inside.table.shared.table_id.slots 0 0 0 (λ n. n) (ap (λ m. m.0.keeps) told) (ap (λ m. m.0.holds) told))

pub split_seat-requires : goal.split_seat-requires
split_seat-requires g c =
    let told = c.load.ensures.2.0 in
    (search rules, search rules, splits c.load.new.seat.id c.load.new.seat.me.0 (ap (λ m. m.0.keeps) told) (ap (λ m. m.0.holds) told))
