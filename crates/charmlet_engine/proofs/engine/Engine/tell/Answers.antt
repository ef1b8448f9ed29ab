use Rattle.charmlet_halves.specs.Halves.{disk_of}
use Rattle.charmlet_engine.proofs.Asked.{takes_status}
use Rattle.charmlet_engine.proofs.engine.Engine.tell.Goals as goal

pub returns : goal.returns
returns g c =
    let laws = g.met.D.Disk g.world.𝓛 g.world.𝓜 g.world.𝓡 ((λ s x. x), (λ x. x), (λ x. x), (λ x. x)) in
    let old = c.self.inside in
    record {
      takes = takes_status g.D.Disk c.args.self.now c.facts.ensures.sound old.store old.halves c.self.invariant c.self.view_is (laws.only_now (disk_of old.halves)) c.args.client c.args.number c.status.result c.status.ensures;
    }
