use Rattle.std.proofs.Common.{◌≡◌, List, [], ◌∷◌, ◌++◌, length, Option, Some, ap, sym, ◌∙◌, subst, rules}
use Rattle.std.specs.Prelude.{slice_get, slice_set}
use Rattle.charmlet_model.specs.declared.names.MsgId.{MsgId}
use Rattle.charmlet_leases.specs.Seats.Seats.{HaveAll, lists_out}
use Rattle.charmlet_leases.specs.Seats.Woven.{IsWoven}
use Rattle.charmlet_leases.proofs.SeatsLemmas.Weaving.{count-set, length-slice_set, merged-right, woven-set}
use Rattle.charmlet_leases.proofs.seats.table.SeatTable.commit.Goals as goal

pub invariant_of-self : goal.invariant_of-self
invariant_of-self g c =
    let seat = c.seat.inside in
    let lists = c.self.inside.authority in
    let there : slice_get lists seat.place ≡ Some (Some seat.ids.items) = search rules in
    let new : c.write_ids.new.authority ≡ slice_set lists seat.place (Some c.push.new.self.items) = search rules in (
      ap length new ∙ length-slice_set lists seat.place (Some c.push.new.self.items) ∙ c.self.invariant.0,
      ap (λ l. length (lists_out l)) new ∙ count-set lists seat.place seat.ids.items c.push.new.self.items there ∙ c.self.invariant.1,
    )

pub returns-clause-all : goal.returns-clause-all
returns-clause-all g c = λ deliveries h.
    let seat = c.seat.inside in
    let lists = c.self.inside.authority in
    let id = c.args.id in
    let there : slice_get lists seat.place ≡ Some (Some seat.ids.items) = search rules in
    let new : c.write_ids.new.authority ≡ slice_set lists seat.place (Some c.push.new.self.items) = search rules in
    let pushed : c.push.new.self.items ≡ seat.ids.items ++ id ∷ [] = search rules in
    let set : c.write_ids.new.authority ≡ slice_set lists seat.place (Some (seat.ids.items ++ id ∷ [])) = new ∙ ap (λ (l : List MsgId). slice_set lists seat.place (Some l)) pushed in
    let was : HaveAll (record { out = c.self.inside.out.items; own = c.self.inside.own; lists = lists }) deliveries = subst (λ k. HaveAll k deliveries) (sym c.self.view_is) h in (
      was.0 ++ id ∷ [],
      merged-right c.self.inside.own.items was.0 deliveries id was.1,
      subst (λ (l : List (Option (List MsgId))). IsWoven (lists_out l) (was.0 ++ id ∷ [])) (sym set) (woven-set lists was.0 seat.place seat.ids.items id there was.2),
    )
