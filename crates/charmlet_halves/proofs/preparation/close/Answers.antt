use Rattle.charmlet_disk.proofs.Moments.{started}
use Rattle.charmlet_halves.specs.Steps.{ClosedOrSame}
use Rattle.charmlet_halves.proofs.Gates.{nothing_torn}
use Rattle.charmlet_halves.proofs.preparation.close.Goals as goal

pub returns-then-is_closed-clause-any_moment : goal.returns-then-is_closed-clause-any_moment
returns-then-is_closed-clause-any_moment g c = λ honest.
    let laws = g.met.D.Disk g.world.𝓛 g.world.𝓜 g.world.𝓡 ((λ s x. x), (λ x. x), (λ x. x), (λ x. x)) in
    let old = c.args.disk.now in
    started g.D.Disk.moment g.D.Disk.since old (ClosedOrSame (g.D.Disk.file old) c.args.half)
    (λ o left. nothing_torn _ _ (c.requires.settled honest) o (laws.only_now old o honest left))
