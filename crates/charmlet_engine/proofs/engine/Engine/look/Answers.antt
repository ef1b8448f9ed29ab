use Rattle.std.proofs.Common.{ap, subst, sym, ◌∙◌}
use Rattle.charmlet_halves.specs.Halves.{disk_of}
use Rattle.charmlet_history.specs.Kept.{core_in}
use Rattle.charmlet_store.specs.Store.{StoreShown}
use Rattle.charmlet_engine.specs.Advances.{Advances}
use Rattle.charmlet_engine.specs.Engine.{EngineShown}
use Rattle.charmlet_engine.specs.Together.{AreTied, shown_by}
use Rattle.charmlet_engine.proofs.Advancing.{advances_still}
use Rattle.charmlet_engine.proofs.engine.Engine.look.Goals as goal

pub invariant_of-self : goal.invariant_of-self
invariant_of-self g c =
    let old = c.self.inside in
    subst (λ (s : StoreShown). AreTied {G = g.D.Disk} s old.halves) (sym c.look.ensures.same) c.self.invariant

pub returns-clause-same : goal.returns-clause-same
returns-clause-same g c =
    let old = c.self.inside in
    ap (λ (s : StoreShown). shown_by {G = g.D.Disk} s old.halves) c.look.ensures.same ∙ c.self.view_is

pub returns-clause-advances : goal.returns-clause-advances
returns-clause-advances g c =
    let laws = g.met.D.Disk g.world.𝓛 g.world.𝓜 g.world.𝓡 ((λ s x. x), (λ x. x), (λ x. x), (λ x. x)) in
    let old = c.self.inside in
    subst (λ (was : EngineShown g.row.D.Denot). Advances g.D.Disk was (shown_by c.look.new.self old.halves)) c.self.view_is
    (advances_still g.D.Disk old.store c.look.new.self old.halves c.self.invariant (ap (λ (s : StoreShown). core_in s.history) c.look.ensures.same)
    (λ honest o left. laws.only_now (disk_of old.halves) o honest left))
