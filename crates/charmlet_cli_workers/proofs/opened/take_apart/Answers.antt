use Rattle.std.proofs.Common.{◌≡◌, List, ◌∷◌, ◌++◌, map, sym, ap, subst, ◌∙◌}
use Rattle.std.specs.Prelude.{IsSome}
use Rattle.std.specs.List.{AllByRecursion}
use Rattle.charmlet_model.specs.Sound.{IsSound}
use Rattle.charmlet_history.specs.Kept.{core_in}
use Rattle.charmlet_store.specs.Store.{StoreShown}
use Rattle.charmlet_hub.specs.Hub.{deliveries_in}
use Rattle.charmlet_model.specs.declared.names.MsgId.{MsgId}
use Rattle.charmlet_leases.specs.Passes.Passes.{HaveAllAccepts, HeldPass, IsCurrent}
use Rattle.charmlet_leases.specs.Seats.Seats.{HeldSeat}
use Rattle.charmlet_leases.specs.Seats.Woven.{IsWoven}
use Rattle.charmlet_workers.specs.declared.work.WorkerSlot.{WorkerSlot}
use Rattle.charmlet_cli_workers.proofs.Leavings.{apart_by, not_ok}
use Rattle.charmlet_cli_workers.proofs.opened.take_apart.Goals as goal

pub returns-in-Ok-close-clause-left : goal.returns-in-Ok-close-clause-left
returns-in-Ok-close-clause-left g c =
    let runtime = c.args.runtime in
    let closed = c.in-Ok-close in
    let core = core_in closed.field-0.store.history in
    let ids : List (WorkerSlot g.row.B.Denot) → List (List MsgId) = λ ss. map (λ (s : WorkerSlot g.row.B.Denot). s.seat.ids) ss in
    let held : List HeldSeat → List (List MsgId) = λ hs. map (λ (h : HeldSeat). h.ids) hs in
    let lent = c.into_lent-slots in
    let lists : held c.give_up.new.seats.items ≡ ids c.args.floor.slots.items =
    c.in-Ok.ensures ∙ ap (λ hs. held hs ++ ids lent.result.slots.items) (lent.ensures.seats ∙ c.requires.seats) ∙ ap ids lent.ensures.slots in
    let woven = subst (λ (ls : List (List MsgId)). IsWoven (closed.field-0.own.items ∷ ls) (deliveries_in core.history)) lists closed.ensures.woven in
    let current = subst (λ (passes : List HeldPass). AllByRecursion (λ (held : HeldPass). IsCurrent held core) passes) lent.ensures.passes closed.ensures.current in
    let all = subst (λ (passes : List HeldPass). HaveAllAccepts passes core) lent.ensures.passes closed.ensures.accepts in
    apart_by g.D.Disk runtime.opening runtime.before runtime.processors c.args.floor.clients.passes.items (ids c.args.floor.slots.items) core closed.field-0.halves.disk c.into_disk.result c.into_disk.ensures closed.ensures.of
    (subst IsSound (ap (λ (s : StoreShown). core_in s.history) c.store.view_is) c.facts.ensures.sound) closed.ensures.lawful current all closed.field-0.own.items woven

pub returns-in-Ok-close-clause-honest : goal.returns-in-Ok-close-clause-honest
returns-in-Ok-close-clause-honest g c = λ named. subst g.D.Disk.honest (sym c.into_disk.ensures) (c.in-Ok-close.ensures.honest named)

pub returns-clause-back : goal.returns-clause-back
returns-clause-back g c = not_ok (IsSome c.not_closed-in-Err.result.disk) c.not_closed-in-Err.result.result c.not_closed-in-Err.ensures.ends
