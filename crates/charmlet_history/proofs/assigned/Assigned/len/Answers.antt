use Rattle.std.proofs.Common.{◌+◌, length, sym, ap, ◌∙◌}
use Rattle.charmlet_history.specs.Assigned.{Assignments}
use Rattle.charmlet_history.proofs.Apart.{one_more}
use Rattle.charmlet_history.proofs.assigned.Assigned.len.Goals as goal

pub returns-then-is_some-clause-len : goal.returns-then-is_some-clause-len
returns-then-is_some-clause-len c =
    ap (λ n. n + 1) c.len.ensures.len ∙ one_more c.self.inside.first c.self.inside.others.entries c.self.invariant (sym c.is_some.ensures ∙ c.if-is_some.true)
    ∙ ap (λ (a : Assignments). length a.entries) c.self.view_is
