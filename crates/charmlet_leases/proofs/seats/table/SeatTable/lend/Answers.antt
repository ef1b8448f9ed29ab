use Rattle.std.proofs.Common.{◌≡◌, ◌+◌, List, [], ◌∷◌, ◌++◌, length, Option, Some, ap, sym, ◌∙◌, subst, rules}
use Rattle.charmlet_model.specs.declared.names.MsgId.{MsgId}
use Rattle.charmlet_leases.specs.Seats.Seats.{HaveAll, lists_out}
use Rattle.charmlet_leases.specs.Seats.Woven.{IsWoven}
use Rattle.charmlet_leases.proofs.SeatsLemmas.Weaving.{count-lent, length-last, woven-lent}
use Rattle.charmlet_leases.proofs.seats.table.SeatTable.lend.Goals as goal

pub invariant_of-self-2 : goal.invariant_of-self-2
invariant_of-self-2 g c =
    let lists = c.self.inside.authority in
    let new : c.issue-fragment.new.self ≡ lists ++ Some [] ∷ [] = search rules in
    let out : length c.push_reserved.new.self.items ≡ length c.self.inside.out.items + 1 = search rules in (
      ap length new ∙ length-last lists (Some []) ∙ ap (λ n. n + 1) c.self.invariant.0 ∙ sym out,
      ap (λ l. length (lists_out l)) new ∙ count-lent lists [] ∙ ap (λ n. n + 1) c.self.invariant.1 ∙ sym out,
    )

pub returns-clause-all : goal.returns-clause-all
returns-clause-all g c = λ deliveries h.
    let lists = c.self.inside.authority in
    let new : c.issue-fragment.new.self ≡ lists ++ Some [] ∷ [] = search rules in
    let was : HaveAll (record { out = c.self.inside.out.items; own = c.self.inside.own; lists = lists }) deliveries = subst (λ k. HaveAll k deliveries) (sym c.self.view_is) h in
    (was.0, was.1, subst (λ (l : List (Option (List MsgId))). IsWoven (lists_out l) was.0) (sym new) (woven-lent lists was.0 was.2))
