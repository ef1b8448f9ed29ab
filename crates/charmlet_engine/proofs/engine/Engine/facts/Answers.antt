use Rattle.std.proofs.Common.{subst}
use Rattle.charmlet_disk.specs.File.{MayLeave, CrashBytes}
use Rattle.charmlet_halves.specs.Halves.{disk_of}
use Rattle.charmlet_history.specs.Kept.{core_in}
use Rattle.charmlet_engine.specs.Engine.{EngineShown, core_of}
use Rattle.charmlet_engine.specs.Outcomes.{is_lawful_now}
use Rattle.charmlet_engine.proofs.Advancing.{advances_self}
use Rattle.charmlet_engine.proofs.Lawful.{lawful_now}
use Rattle.charmlet_engine.proofs.engine.Engine.facts.Goals as goal

pub returns-clause-lawful : goal.returns-clause-lawful
returns-clause-lawful g c =
    let its = c.self.inside in
    subst (λ (e : EngineShown g.row.D.Denot). g.D.Disk.honest e.disk → (o : CrashBytes) → MayLeave (g.D.Disk.file e.disk) o → is_lawful_now (core_of e) o) c.self.view_is
    (λ honest. lawful_now {G = g.D.Disk} (core_in its.store.history) its.halves (c.self.invariant.keeps honest))

pub returns-clause-still : goal.returns-clause-still
returns-clause-still g c =
    let laws = g.met.D.Disk g.world.𝓛 g.world.𝓜 g.world.𝓡 ((λ s x. x), (λ x. x), (λ x. x), (λ x. x)) in
    let its = c.self.inside in
    advances_self g.D.Disk its.store its.halves c.self.invariant (λ honest o left. laws.only_now (disk_of its.halves) o honest left) c.args.self.now c.self.view_is
