use Rattle.charmlet_halves.specs.Halves.{disk_of}
use Rattle.charmlet_store.specs.Together as stores
use Rattle.charmlet_engine.proofs.Asked.{takes_request, tied_asked}
use Rattle.charmlet_engine.proofs.Fitting.{asked_fit}
use Rattle.charmlet_engine.proofs.Tied.{tied_inside, view_inside}
use Rattle.charmlet_engine.proofs.engine.Engine.request.Goals as goal

pub invariant_of-self-inside : goal.invariant_of-self-inside
invariant_of-self-inside g c =
    let its = c.self-inside.inside.0.0 in
    asked_fit its.history its.shelves.items its.stock c.self-inside.invariant c.request-told.new.history c.args.pass.now.client c.args.request.now.number c.args.request.now.to c.args.request.now.entry c.args.request.now.words.now
    c.request-told.result c.request-told.ensures.steps

pub invariant_of-self : goal.invariant_of-self
invariant_of-self g c =
    let laws = g.met.D.Disk g.world.𝓛 g.world.𝓜 g.world.𝓡 ((λ s x. x), (λ x. x), (λ x. x), (λ x. x)) in
    let its = c.self-inside.inside.0.0 in
    let halves = c.self-inside.inside.0.1.0 in
    let tied = tied_inside c.self.inside its.history its.stock halves c.self-inside.view_is c.self.invariant in
    let view_is = view_inside c.self.inside its.history its.stock halves c.self-inside.view_is c.args.self.now c.self.view_is in
    tied_asked g.D.Disk c.args.self.now c.facts.ensures.sound (stores.shown_by its.history its.stock) halves tied view_is (laws.only_now (disk_of halves)) c.request-told.new.history
    c.args.pass.now.client c.args.request.now.number c.args.request.now.to c.args.request.now.entry c.args.request.now.words.now c.request-told.result c.request-told.ensures.steps

pub returns-clause-takes : goal.returns-clause-takes
returns-clause-takes g c =
    let laws = g.met.D.Disk g.world.𝓛 g.world.𝓜 g.world.𝓡 ((λ s x. x), (λ x. x), (λ x. x), (λ x. x)) in
    let its = c.self-inside.inside.0.0 in
    let halves = c.self-inside.inside.0.1.0 in
    let tied = tied_inside c.self.inside its.history its.stock halves c.self-inside.view_is c.self.invariant in
    let view_is = view_inside c.self.inside its.history its.stock halves c.self-inside.view_is c.args.self.now c.self.view_is in
    takes_request g.D.Disk c.args.self.now c.facts.ensures.sound (stores.shown_by its.history its.stock) halves tied view_is (laws.only_now (disk_of halves)) c.request-told.new.history
    c.args.pass.now.client c.args.request.now.number c.args.request.now.to c.args.request.now.entry c.args.request.now.words.now c.request-told.result c.request-told.ensures.steps c.facts-2.ensures.sound
