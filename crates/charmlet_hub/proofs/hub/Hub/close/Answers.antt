use Rattle.std.proofs.Common.{◌≡◌, ◌≤◌, true, false, ◌∷◌, length, map, vec_len, sym, ap, subst, ◌∙◌, rules}
use Rattle.std.specs.Prelude.{◌==◌}
use Rattle.std.specs.List.{AllByRecursion}
use Rattle.charmlet_model.specs.Core.{Core}
use Rattle.charmlet_leases.specs.Passes.Passes.{HaveAllAccepts, HeldPass, IsCurrent}
use Rattle.charmlet_leases.specs.Seats.Seats.{HeldSeat, IdList}
use Rattle.charmlet_leases.specs.Seats.Woven.{IsWoven}
use Rattle.charmlet_hub.specs.Hub.{HubShown, deliveries_in}
use Rattle.charmlet_hub.specs.Settling.{SettleAll, are_all_in, ended}
use Rattle.charmlet_hub.proofs.Endings.{behind, left_true, shelves_idle}
use Rattle.charmlet_hub.proofs.hub.Hub.close.Goals as goal

pub take_apart-apart-requires-clause-idle : goal.take_apart-apart-requires-clause-idle
take_apart-apart-requires-clause-idle g c κs within =
    let lent : c.as_mut_slice.result.now ≡ c.args.shelves.items = search rules in
    let count : c.args.shelves.len ≡ length c.settle_all.new.shelves = search rules in
    shelves_idle c.args.shelves.items _ (behind c.args.shelves.items c.settle_all.new.shelves c.args.shelves.len count ∙ c.settle_all.ensures.shelves ∙ ap (map ended) lent)

-- ---- where all is taken apart

pub unreachable-requires : goal.unreachable-requires
unreachable-requires g c =
    let whole : are_all_in c.args.self (vec_len c.args.seats) (vec_len c.args.passes) ≡ true = search rules in
    let all = left_true (vec_len c.args.seats == length c.args.self.seats.out) (vec_len c.args.passes == length c.args.self.passes.out) whole in
    let out = ap length (ap (λ (v : HubShown _). v.seats.out) c.into_parts-sequencer.ensures.shown ∙ c.settle_all.ensures.out) in
    let never : false ≡ true = (c.in_default.ensures {u = tt}).which ∙ ap (λ n. vec_len c.args.seats == n) out ∙ all in
    let contra : ⊥ = cc in contra

pub returns-clause-later : goal.returns-clause-later
returns-clause-later g c =
    let core = c.take_apart-apart.ensures.core ∙ ap (λ (v : HubShown _). v.core) c.into_parts-sequencer.ensures.shown in
    subst (λ (k : Core). g.B.RuntimeName.generation ≤ k.generation) (sym core) c.facts.ensures.later

pub returns-clause-settles : goal.returns-clause-settles
returns-clause-settles g c =
    let apart = c.take_apart-apart.ensures in
    let lent : c.as_mut_slice.result.now ≡ c.args.shelves.items = search rules in (
      c.settle_all.new.self,
      subst (λ l. SettleAll c.args.self l c.settle_all.new.self) lent c.settle_all.ensures.settles,
      apart.core ∙ ap (λ (v : HubShown _). v.core) c.into_parts-sequencer.ensures.shown,
      apart.census ∙ ap (λ (v : HubShown _). v.census) c.into_parts-sequencer.ensures.shown,
      apart.disk ∙ ap (λ (v : HubShown _). v.disk) c.into_parts-sequencer.ensures.shown,
      c.in-Ok.ensures.own ∙ ap (λ (v : HubShown _). v.seats.own) c.into_parts-sequencer.ensures.shown,
    )

pub returns-clause-lawful : goal.returns-clause-lawful
returns-clause-lawful g c = λ honest.
    let disk = ap (λ (v : HubShown _). v.disk) c.into_parts-sequencer.ensures.shown ∙ c.settle_all.ensures.disk in
    c.take_apart-apart.ensures.lawful (subst g.D.Disk.honest (sym disk) honest)

pub returns-clause-woven : goal.returns-clause-woven
returns-clause-woven g c =
    let h = c.into_parts-sequencer.result in
    subst (λ (x : IdList × Core). IsWoven (x.0.items ∷ map (λ (seat : HeldSeat). seat.ids) c.args.seats.items) (deliveries_in x.1.history)) (λ i. (sym c.in-Ok.ensures.own i, sym c.take_apart-apart.ensures.core i))
    (c.in-Ok.ensures.woven (deliveries_in h.sequencer.core.history) c.into_parts-sequencer.ensures.hub.seats)

pub returns-clause-current : goal.returns-clause-current
returns-clause-current g c =
    let h = c.into_parts-sequencer.result in
    subst (λ core. AllByRecursion (λ (held : HeldPass). IsCurrent held core) c.args.passes.items) (sym c.take_apart-apart.ensures.core)
    (c.in-Ok-close.ensures.current h.sequencer.core c.into_parts-sequencer.ensures.hub.passes)

pub returns-clause-accepts : goal.returns-clause-accepts
returns-clause-accepts g c =
    let h = c.into_parts-sequencer.result in
    subst (HaveAllAccepts c.args.passes.items) (sym c.take_apart-apart.ensures.core) (c.in-Ok-close.ensures.accepts h.sequencer.core c.into_parts-sequencer.ensures.hub.passes)
