use Rattle.std.proofs.Common.{◌≡◌, sym, ap, subst, ◌∙◌}
use Rattle.std.specs.Prelude.{IfErr}
use Rattle.charmlet_history.specs.Kept.{core_in}
use Rattle.charmlet_hub.specs.Hub.{HubShown}
use Rattle.charmlet_workers.specs.Runtime.{RuntimeShown, WasSeen}
use Rattle.charmlet_workers.proofs.LooksLemmas.{err_seen}
use Rattle.charmlet_workers.proofs.runtime.Runtime.find.Goals as goal

pub returns-clause-seen : goal.returns-clause-seen
returns-clause-seen g c =
    let hub = c.deref.result.now in
    let is : core_in c.history.result.now ≡ hub.core = c.history.ensures ∙ ap (λ (h : HubShown _). h.core) (c.deref-2.ensures ∙ sym c.deref.ensures) in
    subst (λ (v : RuntimeShown). IfErr c.absent_look.result (WasSeen v c.args.elem)) c.self.view_is
    (err_seen c.args.elem c.absent_look.result (record { of = record { of = c.facts.ensures.of; later = c.facts.ensures.later }; sound = c.facts.ensures.sound }) is c.absent_look.ensures.look)
