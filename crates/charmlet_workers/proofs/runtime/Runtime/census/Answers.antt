use Rattle.std.proofs.Common.{◌≡◌, sym, ap, subst, ◌∙◌}
use Rattle.charmlet_hub.specs.Hub.{HubShown}
use Rattle.charmlet_workers.specs.Runtime.{RuntimeShown, WereCounted}
use Rattle.charmlet_workers.proofs.Counts.{tally_of}
use Rattle.charmlet_workers.proofs.runtime.Runtime.census.Goals as goal

pub returns : goal.returns
returns g c =
    let hub = c.deref.result.now in
    let facts = c.facts.ensures in
    let same : c.census.result ≡ hub.census = c.census.ensures ∙ ap (λ (h : HubShown _). h.census) (c.deref-2.ensures ∙ sym c.deref.ensures) in
    subst (λ (v : RuntimeShown). WereCounted v c.census.result) c.self.view_is
    (subst (λ census. WereCounted _ census) (sym same)
    (record { core = hub.core; moment = record { of = record { of = facts.of; later = facts.later }; sound = facts.sound }; was = tally_of hub.core hub.census facts.authority.0 facts.sound facts.authority.1 }))
