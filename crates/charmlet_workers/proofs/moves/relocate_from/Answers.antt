use Rattle.std.proofs.Common.{◌≡◌, ◌<◌, ◌∙◌, None, Some, rules, refl, sym, ap, subst}
use Rattle.charmlet_model.specs.Core.{Core, Done, Stepped, assigned_to, place_of}
use Rattle.charmlet_migrate.specs.Moving.{IsIdle}
use Rattle.charmlet_shelf.specs.Shelf.{View}
use Rattle.charmlet_hub.specs.Hub.{HubShown, store_in}
use Rattle.charmlet_workers.specs.Runtime.{RuntimeShown, named}
use Rattle.charmlet_workers.proofs.Causes.{relocation_caused}
use Rattle.charmlet_workers.proofs.MovesLemmas.{stands_moved}
use Rattle.charmlet_workers.proofs.Refusals.{none_assigned}
use Rattle.charmlet_workers.proofs.moves.relocate_from.Goals as goal

pub returns-in-Err-clause-cause : goal.returns-in-Err-clause-cause
returns-in-Err-clause-cause g c = λ from_idle to_idle any.
    let hub = c.args.hub.now in
    let from = c.args.from.now in
    let to = c.args.to.now in
    let left = c.relocate.new in
    let same = c.in-Err.ensures.err in
    let core : left.self.core ≡ hub.core = ap (λ (h : HubShown _). h.core) same.0 in
    let first = c.agree.ensures in
    let second = c.agree-in-Err.ensures in
    let here : assigned_to left.self.core left.from.number ≡ None = none_assigned left.self.core left.from (subst IsIdle (sym same.1) from_idle) first.due in
    let from_none : assigned_to hub.core from.number ≡ None = subst (λ (x : Core × View). assigned_to x.0 x.1.number ≡ None) (λ i. (core i, same.1 i)) here in
    let there : assigned_to c.agree.new.self.core left.to.number ≡ None = none_assigned c.agree.new.self.core left.to (subst IsIdle (sym same.2) to_idle) second.due in
    let still : c.agree.new.self.core ≡ hub.core = ap (λ (h : HubShown _). h.core) (first.hub ∙ same.0) in
    let to_none : assigned_to hub.core to.number ≡ None = subst (λ (x : Core × View). assigned_to x.0 x.1.number ≡ None) (λ i. (still i, same.2 i)) there in
    let within : to.number < hub.core.processors = subst (λ (x : Core × View). x.1.number < x.0.processors) (λ i. (still i, same.2 i)) second.on in
    let stands : place_of hub.core c.args.elem ≡ Some from.number = search rules in
    let shown : RuntimeShown = named g.B.RuntimeName.opening g.B.RuntimeName.before g.B.RuntimeName.processors g.B.RuntimeName.generation in
    relocation_caused hub shown c.facts.ensures.of.opening_is (store_in left.self) c.args.elem from.number to.number c.in-Err.refusal any within stands from_none to_none c.in-Err.ensures.goes

pub returns-in-Ok-clause-stood : goal.returns-in-Ok-clause-stood
returns-in-Ok-clause-stood g c _ =
    let store = store_in c.args.hub.now in
    let next = store_in c.relocate.new.self in
    let elem = c.args.elem in
    let moved : Stepped = record { answer = Done; core = next.core; blanks = next.blanks } in
    let left = c.facts-in-Ok.ensures in
    record {
      core = c.relocate.new.self.core;
      moment = record { of = record { of = left.of; later = left.later }; sound = left.sound };
      was = stands_moved store.core store.blanks elem c.args.to.now.number (c.facts.ensures.sound.placed elem).there moved refl c.in-Ok.ensures.goes;
    }
