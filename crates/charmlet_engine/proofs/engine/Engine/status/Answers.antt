use Rattle.charmlet_halves.specs.Halves.{disk_of}
use Rattle.charmlet_stock.specs.Stock.{blanks_in}
use Rattle.charmlet_store.specs.Together as stores
use Rattle.charmlet_engine.proofs.Asked.{takes_status}
use Rattle.charmlet_engine.proofs.Tied.{tied_inside, view_inside}
use Rattle.charmlet_engine.proofs.engine.Engine.status.Goals as goal

pub returns-clause-takes : goal.returns-clause-takes
returns-clause-takes g c =
    let laws = g.met.D.Disk g.world.𝓛 g.world.𝓜 g.world.𝓡 ((λ s x. x), (λ x. x), (λ x. x), (λ x. x)) in
    let its = c.self-inside.inside.0.0 in
    let halves = c.self-inside.inside.0.1.0 in
    let tied = tied_inside c.self.inside its.history its.stock halves c.self-inside.view_is c.self.invariant in
    let view_is = view_inside c.self.inside its.history its.stock halves c.self-inside.view_is c.args.self.now c.self.view_is in
    takes_status g.D.Disk c.args.self.now c.facts.ensures.sound (stores.shown_by its.history its.stock) halves tied view_is (laws.only_now (disk_of halves)) c.args.pass.now.client c.args.number c.status.result
    (c.status.ensures.steps (blanks_in its.stock))
