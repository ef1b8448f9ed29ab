use Rattle.std.proofs.Common.{ℕ, sym, ap, ◌∙◌}
use Rattle.std.specs.Prelude.{option_map}
use Rattle.charmlet_model.specs.declared.names.MsgId.{MsgId}
use Rattle.charmlet_world.specs.Seen.{Held, next_due, seen}
use Rattle.charmlet_world.specs.Standing.{risen}
use Rattle.charmlet_world.proofs.Tying.{oldest_is}
use Rattle.charmlet_world.proofs.present.PresentWorld.oldest.Goals as goal

pub returns-in_default : goal.returns-in_default
returns-in_default c =
    let k = seen c.args.self.now in
    let due = c.next.ensures k (sym (ap (λ (h : Held). h.processors) c.self.view_is)) (sym (ap (λ (h : Held). risen h.rows) c.self.view_is)) ∙ ap (λ (h : Held). next_due k h.pending) c.self.view_is in
    ap (option_map (λ (e : ℕ × MsgId). e.1)) (sym c.in_default.is ∙ due) ∙ oldest_is k c.args.self.now.pending

pub returns : goal.returns
returns c =
    let k = seen c.args.self.now in
    let due = c.next.ensures k (sym (ap (λ (h : Held). h.processors) c.self.view_is)) (sym (ap (λ (h : Held). risen h.rows) c.self.view_is)) ∙ ap (λ (h : Held). next_due k h.pending) c.self.view_is in
    ap (option_map (λ (e : ℕ × MsgId). e.1)) (sym c.in-Some.is ∙ due) ∙ oldest_is k c.args.self.now.pending
