use Rattle.charmlet_model.specs.Core as core
use Rattle.charmlet_model.specs.declared.step.Step.TheVariants as steps
use Rattle.charmlet_history.specs.Kept.{told_or_refused}
use Rattle.charmlet_halves.specs.Halves.{disk_of}
use Rattle.charmlet_store.specs.Store.{store_in}
use Rattle.charmlet_engine.specs.Engine.{client_answer}
use Rattle.charmlet_engine.proofs.Asked.{client_does, takes_quietly, tied_quietly}
use Rattle.charmlet_engine.proofs.Quiets.{goes_quiet, told_goes_on}
use Rattle.charmlet_engine.proofs.engine.Engine.ask.Goals as goal

pub invariant_of-self : goal.invariant_of-self
invariant_of-self g c =
    let laws = g.met.D.Disk g.world.𝓛 g.world.𝓜 g.world.𝓡 ((λ s x. x), (λ x. x), (λ x. x), (λ x. x)) in
    let r = c.args.request.now in
    let old = c.self.inside in
    let new = c.request-told.new.self in
    tied_quietly g.D.Disk c.args.self.now c.facts.ensures.sound old.store old.halves c.self.invariant c.self.view_is (laws.only_now (disk_of old.halves)) new c.request-told.ensures.keeping
    (goes_quiet (store_in old.store) (store_in new) (core.Request c.args.client r.number r.to r.entry r.words.now) (told_or_refused c.request-told.result) tt c.request-told.ensures.goes)

pub returns : goal.returns
returns g c =
    let laws = g.met.D.Disk g.world.𝓛 g.world.𝓜 g.world.𝓡 ((λ s x. x), (λ x. x), (λ x. x), (λ x. x)) in
    let r = c.args.request.now in
    let old = c.self.inside in
    let new = c.request-told.new.self in
    let step = core.Request c.args.client r.number r.to r.entry r.words.now in
    let done = c.request-told.ensures in
    let told = c.request-told.result in
    record {
      takes = takes_quietly g.D.Disk c.args.self.now c.facts.ensures.sound old.store old.halves c.self.invariant c.self.view_is (laws.only_now (disk_of old.halves)) new done.keeping
          (goes_quiet (store_in old.store) (store_in new) step (told_or_refused told) tt done.goes) c.facts-2.ensures.sound done.supplied (steps.Request c.args.client r.number r.to r.entry r.words.now) (client_answer told)
          (client_does (store_in old.store) (store_in new) step told done.goes) (told_goes_on (store_in old.store) (store_in new) step told tt done.goes);
    }
