use Rattle.std.proofs.Common.{subst}
use Rattle.charmlet_halves.specs.Halves.{disk_of}
use Rattle.charmlet_engine.specs.Advances.{Advances}
use Rattle.charmlet_engine.specs.Engine.{EngineShown}
use Rattle.charmlet_engine.specs.Together.{shown_by}
use Rattle.charmlet_engine.proofs.Advancing.{advances_still}
use Rattle.charmlet_engine.proofs.Tied.{core_tied}
use Rattle.charmlet_engine.proofs.engine.Engine.transfer_from.Goals as goal

pub invariant_of-self : goal.invariant_of-self
invariant_of-self g c = core_tied {G = g.D.Disk} c.self.inside.store c.transfer_from.new.self c.self.inside.halves c.self.invariant c.transfer_from.ensures.keeping c.transfer_from.ensures.core

pub returns-clause-advances : goal.returns-clause-advances
returns-clause-advances g c =
    let laws = g.met.D.Disk g.world.𝓛 g.world.𝓜 g.world.𝓡 ((λ s x. x), (λ x. x), (λ x. x), (λ x. x)) in
    let old = c.self.inside in
    subst (λ (was : EngineShown g.row.D.Denot). Advances g.D.Disk was (shown_by c.transfer_from.new.self old.halves)) c.self.view_is
    (advances_still g.D.Disk old.store c.transfer_from.new.self old.halves c.self.invariant c.transfer_from.ensures.core
    (λ honest o left. laws.only_now (disk_of old.halves) o honest left))
