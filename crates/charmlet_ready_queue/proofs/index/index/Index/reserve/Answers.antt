use Rattle.std.proofs.Common.{arith, sym, subst}
use Rattle.charmlet_ready_queue.specs.Index.Index.{Indexed, IsIndexOf}
use Rattle.charmlet_ready_queue.proofs.index.index.Index.reserve.Goals as goal

pub returns-in_err-reserve_each-clause-index : goal.returns-in_err-reserve_each-clause-index
returns-in_err-reserve_each-clause-index c = λ seq_nos place is. c.reserve_each.ensures.index seq_nos place (subst (λ (v : Indexed). IsIndexOf seq_nos place v.lists) (sym c.self.view_is) is)

pub returns-clause-index : goal.returns-clause-index
returns-clause-index c = λ seq_nos place is. c.reserve_each.ensures.index seq_nos place (subst (λ (v : Indexed). IsIndexOf seq_nos place v.lists) (sym c.self.view_is) is)

pub invariant_of-self : goal.invariant_of-self
invariant_of-self c = record { numbers = c.self.invariant.numbers; roomy = c.reserve_each.ensures.roomy; below = c.reserve_each.ensures.below c.self.inside.next c.self.invariant.below }

pub invariant_of-self-2 : goal.invariant_of-self-2
invariant_of-self-2 c = record { numbers = grind (arith, c.self.invariant.numbers); roomy = c.in_ok-reserve_each.ensures.ok; below = c.reserve_each.ensures.below c.self.inside.next c.self.invariant.below }
