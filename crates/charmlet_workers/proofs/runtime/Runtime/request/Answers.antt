use Rattle.std.proofs.Common.{◌≡◌, ◌∙◌, Some, sym, subst}
use Rattle.std.specs.Prelude.{IfErr, slice_get}
use Rattle.charmlet_model.specs.Core.{Request}
use Rattle.charmlet_model.specs.Run.{Goes}
use Rattle.charmlet_history.specs.Kept.{told_or_refused}
use Rattle.charmlet_hub.specs.Hub.{HubShown, store_in}
use Rattle.charmlet_workers.specs.Refusals.{IsRequestCause}
use Rattle.charmlet_workers.specs.Runtime.{RuntimeShown}
use Rattle.charmlet_workers.proofs.Causes.{request_caused}
use Rattle.charmlet_workers.proofs.Refusals.{request_refused}
use Rattle.charmlet_workers.proofs.Repeats.{told_recent}
use Rattle.charmlet_workers.proofs.runtime.Runtime.request.Goals as goal

pub returns-clause-err : goal.returns-clause-err
returns-clause-err g c =
    let request = c.args.request.now in
    request_refused (store_in c.deref_mut.result.now) (store_in c.request.new.self) c.args.pass.now.pass.client request.number request.to request.entry request.words.now c.request.result c.request.ensures.goes

pub returns-clause-cause : goal.returns-clause-cause
returns-clause-cause g c =
    let hub = c.deref.result.now in
    let next = store_in c.request.new.self in
    let same : c.deref_mut.result.now ≡ hub = c.deref_mut.ensures.value ∙ sym c.deref.ensures in
    let held = c.args.pass.now in
    let request = c.args.request.now in
    let kept = c.request.ensures.kept in
    let had : slice_get hub.passes.held kept.place ≡ Some (Some held) = subst (λ (h : HubShown _). slice_get h.passes.held kept.place ≡ Some (Some held)) same kept.had in
    let goes = subst (λ (h : HubShown _). Goes (store_in h) (Request held.pass.client request.number request.to request.entry request.words.now) (told_or_refused c.request.result) next) same c.request.ensures.goes in
    subst (λ (v : RuntimeShown). IfErr c.request.result (IsRequestCause v.opening held request)) c.self.view_is
    (request_caused hub next g.B.RuntimeName.opening held request c.request.result c.facts.ensures.sound c.facts.ensures.of.opening_is (c.facts.ensures.hub.passes.each kept.place held had) goes)

pub returns-clause-repeat : goal.returns-clause-repeat
returns-clause-repeat g c =
    let hub = c.deref.result.now in
    let next = store_in c.request.new.self in
    let same : c.deref_mut.result.now ≡ hub = c.deref_mut.ensures.value ∙ sym c.deref.ensures in
    let held = c.args.pass.now in
    let request = c.args.request.now in
    let kept = c.request.ensures.kept in
    let had : slice_get hub.passes.held kept.place ≡ Some (Some held) = subst (λ (h : HubShown _). slice_get h.passes.held kept.place ≡ Some (Some held)) same kept.had in
    let goes = subst (λ (h : HubShown _). Goes (store_in h) (Request held.pass.client request.number request.to request.entry request.words.now) (told_or_refused c.request.result) next) same c.request.ensures.goes in
    told_recent hub next held request c.request.result c.facts.ensures.sound (c.facts.ensures.hub.passes.each kept.place held had) goes
