use Rattle.std.proofs.Common.{ℕ, subst}
use Rattle.charmlet_requests.specs.Handlers.{IsTarget, handler_of}
use Rattle.charmlet_engine.specs.Engine.{EngineShown, world_of}
use Rattle.charmlet_engine.proofs.Tied.{view_inside}
use Rattle.charmlet_engine.proofs.engine.Engine.target.Goals as goal

pub returns : goal.returns
returns g c =
    let its = c.self-inside.inside.0.0 in
    let view_is = view_inside c.self.inside its.history its.stock c.self-inside.inside.0.1.0 c.self-inside.view_is c.args.self.now c.self.view_is in
    let found = c.target.result in
    subst (λ (e : EngineShown g.row.D.Denot). (index : ℕ) → IsTarget (world_of e) index (handler_of c.args.handlers.now c.args.name.now) (record { array = found.array; index = index }) found.entry) view_is c.target.ensures
