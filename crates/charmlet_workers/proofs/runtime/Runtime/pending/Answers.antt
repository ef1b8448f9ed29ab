use Rattle.std.proofs.Common.{◌≡◌, sym, ap, subst, ◌∙◌}
use Rattle.std.specs.Prelude.{IfOk}
use Rattle.charmlet_history.specs.Kept.{core_in}
use Rattle.charmlet_hub.specs.Hub.{HubShown}
use Rattle.charmlet_workers.specs.Runtime.{ArePendingIds, IsMoment, RuntimeShown, named}
use Rattle.charmlet_workers.proofs.Runtimes.{pending_if}
use Rattle.charmlet_workers.proofs.runtime.Runtime.pending.Goals as goal

pub returns : goal.returns
returns g c =
    let hub = c.deref.result.now in
    let is : core_in c.history.result.now ≡ hub.core = c.history.ensures ∙ ap (λ (h : HubShown _). h.core) (c.deref-2.ensures ∙ sym c.deref.ensures) in
    subst (λ (v : RuntimeShown). IfOk c.pending_in.result (λ ids. ArePendingIds v ids.items)) c.self.view_is
    (pending_if (named g.B.RuntimeName.opening g.B.RuntimeName.before g.B.RuntimeName.processors g.B.RuntimeName.generation) (core_in c.history.result.now) c.pending_in.result
    (subst (IsMoment (named g.B.RuntimeName.opening g.B.RuntimeName.before g.B.RuntimeName.processors g.B.RuntimeName.generation)) (sym is) (record { of = record { of = c.facts.ensures.of; later = c.facts.ensures.later }; sound = c.facts.ensures.sound })) c.pending_in.ensures)
