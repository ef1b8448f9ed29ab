use Rattle.std.proofs.Common.{◌≡◌, ◌+◌, length, sym, ap, subst, ◌∙◌}
use Rattle.charmlet_model.specs.Core.{Core}
use Rattle.charmlet_history.specs.Kept.{core_in}
use Rattle.charmlet_hub.specs.Hub.{HubShown}
use Rattle.charmlet_workers.specs.Runtime.{RuntimeShown, WasTrue}
use Rattle.charmlet_workers.proofs.Runtimes.{seen_at}
use Rattle.charmlet_workers.proofs.runtime.Runtime.event_count.Goals as goal

pub returns : goal.returns
returns g c =
    let hub = c.deref.result.now in
    let is : core_in c.history.result.now ≡ hub.core = c.history.ensures ∙ ap (λ (h : HubShown _). h.core) (c.deref-2.ensures ∙ sym c.deref.ensures) in
    let property = λ (core : Core). c.event_count.result ≡ core.before + length core.history in
    subst (λ (v : RuntimeShown). WasTrue v property) c.self.view_is
    (seen_at (record { of = record { of = c.facts.ensures.of; later = c.facts.ensures.later }; sound = c.facts.ensures.sound }) is property c.event_count.ensures.count)
