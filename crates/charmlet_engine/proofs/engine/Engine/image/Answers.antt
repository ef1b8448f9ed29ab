use Rattle.std.proofs.Common.{refl, subst}
use Rattle.charmlet_halves.specs.Halves.{disk_of}
use Rattle.charmlet_store.specs.Together as stores
use Rattle.charmlet_engine.specs.Advances.{Advances}
use Rattle.charmlet_engine.specs.Engine.{EngineShown}
use Rattle.charmlet_engine.specs.Together.{shown_by}
use Rattle.charmlet_engine.proofs.Advancing.{advances_still}
use Rattle.charmlet_engine.proofs.Tied.{tied_inside, view_inside}
use Rattle.charmlet_engine.proofs.engine.Engine.image.Goals as goal

pub invariant_of-self : goal.invariant_of-self
invariant_of-self g c =
    let its = c.self-inside.inside.0.0 in
    let halves = c.self-inside.inside.0.1.0 in
    tied_inside c.self.inside its.history its.stock halves c.self-inside.view_is c.self.invariant

pub returns-clause-advances : goal.returns-clause-advances
returns-clause-advances g c =
    let laws = g.met.D.Disk g.world.𝓛 g.world.𝓜 g.world.𝓡 ((λ s x. x), (λ x. x), (λ x. x), (λ x. x)) in
    let its = c.self-inside.inside.0.0 in
    let halves = c.self-inside.inside.0.1.0 in
    let tied = tied_inside c.self.inside its.history its.stock halves c.self-inside.view_is c.self.invariant in
    let view_is = view_inside c.self.inside its.history its.stock halves c.self-inside.view_is c.args.self.now c.self.view_is in
    let old = stores.shown_by its.history its.stock in
    subst (λ (e : EngineShown g.row.D.Denot). Advances g.D.Disk e (shown_by old halves)) view_is (advances_still g.D.Disk old old halves tied refl (λ honest o left. laws.only_now (disk_of halves) o honest left))
