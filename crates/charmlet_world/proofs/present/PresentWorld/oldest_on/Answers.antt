use Rattle.std.proofs.Common.{sym, ap, ◌∙◌}
use Rattle.charmlet_world.specs.Seen.{Held, seen, oldest_on}
use Rattle.charmlet_world.specs.Standing.{risen}
use Rattle.charmlet_world.proofs.present.PresentWorld.oldest_on.Goals as goal

pub returns-clause-oldest : goal.returns-clause-oldest
returns-clause-oldest g c =
    let k = seen c.args.self.now in
    c.oldest_on.ensures.oldest k (sym (ap (λ (h : Held). h.processors) c.self.view_is)) (sym (ap (λ (h : Held). risen h.rows) c.self.view_is))
    ∙ ap (λ (h : Held). oldest_on k c.args.processor h.pending) c.self.view_is
