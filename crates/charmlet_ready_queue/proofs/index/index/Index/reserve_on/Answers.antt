use Rattle.std.proofs.Common.{sym, subst}
use Rattle.charmlet_ready_queue.specs.Index.Index.{Indexed, IsIndexOf}
use Rattle.charmlet_ready_queue.proofs.index.index.Index.reserve_on.Goals as goal

pub invariant_of-self : goal.invariant_of-self
invariant_of-self c = record { numbers = c.self.invariant.numbers; roomy = c.reserve_one.ensures.roomy; below = c.reserve_one.ensures.below c.self.inside.next c.self.invariant.below }

pub returns-clause-index : goal.returns-clause-index
returns-clause-index c = λ seq_nos place is. c.reserve_one.ensures.index seq_nos place (subst (λ (v : Indexed). IsIndexOf seq_nos place v.lists) (sym c.self.view_is) is)
