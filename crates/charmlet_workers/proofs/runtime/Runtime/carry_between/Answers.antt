use Rattle.std.proofs.Common.{ℕ, subst}
use Rattle.std.specs.Prelude.{IfErr}
use Rattle.charmlet_workers.specs.Refusals.{IsMoveCause}
use Rattle.charmlet_workers.specs.Runtime.{RuntimeShown, StoodOn}
use Rattle.charmlet_workers.proofs.runtime.Runtime.carry_between.Goals as goal

pub returns-clause-cause : goal.returns-clause-cause
returns-clause-cause g c = λ any.
    subst (λ (v : RuntimeShown). IfErr c.relocate_from.result (IsMoveCause v c.args.elem any)) c.self.view_is (c.relocate_from.ensures.cause c.in_default.ensures.idle c.in_default-settle.ensures.idle any)

pub returns-clause-moved : goal.returns-clause-moved
returns-clause-moved g c is = subst (λ (x : RuntimeShown × ℕ). StoodOn x.0 c.args.elem x.1) (λ i. (c.self.view_is i, c.settle-2.ensures.number i)) (c.relocate_from.ensures.stood is)
