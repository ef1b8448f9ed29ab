use Rattle.std.proofs.Common.{sym, ap, ◌∙◌}
use Rattle.std.specs.Prelude.{is_none}
use Rattle.charmlet_world.specs.Seen.{Held, seen, oldest}
use Rattle.charmlet_world.specs.Standing.{risen}
use Rattle.charmlet_world.proofs.present.PresentWorld.quiet.Goals as goal

pub returns : goal.returns
returns c =
    let k = seen c.args.self.now in
    c.quiet.ensures k (sym (ap (λ (h : Held). h.processors) c.self.view_is)) (sym (ap (λ (h : Held). risen h.rows) c.self.view_is))
    ∙ ap (λ (h : Held). is_none (oldest k h.pending)) c.self.view_is
