use Rattle.std.proofs.Common.{◌≡◌, ◌∙◌, ap, sym, subst}
use Rattle.std.specs.Prelude.{IfErr, Some}
use Rattle.charmlet_model.specs.Core.{place_of}
use Rattle.charmlet_model.specs.Sound.{IsSound}
use Rattle.charmlet_hub.specs.Hub.{HubShown, store_in}
use Rattle.charmlet_workers.specs.Refusals.{IsMoveCause}
use Rattle.charmlet_workers.specs.Runtime.{RuntimeShown, StoodOn, named}
use Rattle.charmlet_workers.proofs.Causes.{source_caused}
use Rattle.charmlet_workers.proofs.MovesLemmas.{stays_there}
use Rattle.charmlet_workers.proofs.Runtimes.{seen_at}
use Rattle.charmlet_workers.proofs.runtime.Runtime.locate_for_move.Goals as goal

pub returns-clause-cause : goal.returns-clause-cause
returns-clause-cause g c =
    let hub = c.deref-2.result.now in
    let elem = c.args.elem in
    let processor = c.args.processor in
    let same : hub ≡ c.deref.result.now = c.deref-2.ensures ∙ sym c.deref.ensures in
    let shown : RuntimeShown = named g.B.RuntimeName.opening g.B.RuntimeName.before g.B.RuntimeName.processors g.B.RuntimeName.generation in
    let opening : hub.core.opening ≡ shown.opening = ap (λ (h : HubShown _). h.core.opening) same ∙ c.facts.ensures.of.opening_is in
    let count : hub.core.processors ≡ shown.processors = ap (λ (h : HubShown _). h.core.processors) same ∙ c.facts.ensures.of.processors_are in
    let sound = subst (λ (h : HubShown _). IsSound h.core) (sym same) c.facts.ensures.sound in
    subst (λ (v : RuntimeShown). IfErr c.locate_for_move.result (IsMoveCause v elem processor)) c.self.view_is
    (source_caused hub shown opening elem processor c.locate_for_move.result count sound c.locate_for_move.ensures.err c.locate_for_move.ensures.away)

pub returns-clause-there : goal.returns-clause-there
returns-clause-there g c is =
    let hub = c.deref-2.result.now in
    let elem = c.args.elem in
    let processor = c.args.processor in
    let same : hub ≡ c.deref.result.now = c.deref-2.ensures ∙ sym c.deref.ensures in
    let sound = subst (λ (h : HubShown _). IsSound h.core) (sym same) c.facts.ensures.sound in
    let stands = stays_there (store_in hub) elem processor c.locate_for_move.result (sound.placed elem).there c.locate_for_move.ensures.ok is in
    subst (λ (v : RuntimeShown). StoodOn v elem processor) c.self.view_is
    (seen_at (record { of = record { of = c.facts.ensures.of; later = c.facts.ensures.later }; sound = c.facts.ensures.sound }) (ap (λ (h : HubShown _). h.core) same) (λ core. place_of core elem ≡ Some processor) stands)
