use Rattle.std.proofs.Common.{sym, ap, ◌∙◌}
use Rattle.charmlet_world.specs.Seen.{Held, seen, next_due}
use Rattle.charmlet_world.specs.Standing.{risen}
use Rattle.charmlet_world.proofs.present.PresentWorld.next_in.Goals as goal

pub returns-clause-next : goal.returns-clause-next
returns-clause-next g c =
    let k = seen c.args.self.now in
    c.next_in.ensures.next k (sym (ap (λ (h : Held). h.processors) c.self.view_is)) (sym (ap (λ (h : Held). risen h.rows) c.self.view_is))
    ∙ ap (λ (h : Held). next_due k h.pending) c.self.view_is
