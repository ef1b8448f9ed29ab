use Rattle.std.proofs.Common.{ap, ◌∙◌, sym, refl, rules}
use Rattle.charmlet_locks.proofs.GhostAuthLemmas.Moves.{adds, splits}
use Rattle.charmlet_locks.proofs.ghost_auth.authority.Authority.issue.Goals as goal

pub compare_exchange_with-requires : goal.compare_exchange_with-requires
compare_exchange_with-requires g c = (search rules, search rules, adds c.self.inside.seat.id c.self.inside.seat.me c.self.inside.table.shared.table_id.slots 0 0 0 (λ n. n) c.args.value.now c.self.invariant.4)

pub split_seat-fragment-requires : goal.split_seat-fragment-requires
split_seat-fragment-requires g c =
    let told = c.compare_exchange_with.ensures.2 in
    (search rules, search rules, splits c.compare_exchange_with.new.seat.id c.compare_exchange_with.new.seat.me.0 (ap (λ m. m.0.keeps) told) (ap (λ m. m.0.holds) told))
