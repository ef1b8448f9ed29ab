use Rattle.std.proofs.Common.{◌≡◌, sym, ap, subst, ◌∙◌}
use Rattle.charmlet_model.specs.declared.names.Elem.{Elem}
use Rattle.charmlet_model.specs.Core.{Core, present}
use Rattle.charmlet_history.specs.Kept.{core_in}
use Rattle.charmlet_requests.specs.Handlers.{IsTarget, handler_of}
use Rattle.charmlet_hub.specs.Hub.{HubShown}
use Rattle.charmlet_workers.specs.Runtime.{RuntimeShown}
use Rattle.charmlet_workers.proofs.Runtimes.{target_since}
use Rattle.charmlet_workers.proofs.runtime.Runtime.target.Goals as goal

pub returns : goal.returns
returns g c = λ index.
    let hub = c.deref.result.now in
    let is : core_in c.history.result.now ≡ hub.core = c.history.ensures ∙ ap (λ (h : HubShown _). h.core) (c.deref-2.ensures ∙ sym c.deref.ensures) in
    let handler = handler_of c.args.handlers.now c.args.name.now in
    let to : Elem = record { array = c.target.result.array; index = index } in
    let entry = c.target.result.entry in
    let target = subst (λ (core : Core). IsTarget (present core) index handler to entry) is (c.target.ensures index) in
    subst (λ (v : RuntimeShown). IsTarget v.opening index handler to entry) c.self.view_is (target_since hub.core g.B.RuntimeName.opening index handler to entry c.facts.ensures.of.opening_is target)
