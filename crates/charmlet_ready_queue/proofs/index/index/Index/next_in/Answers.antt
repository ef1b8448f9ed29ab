use Rattle.std.proofs.Common.{◌<◌, length, sym, subst}
use Rattle.std.specs.List.{AllByRecursion}
use Rattle.charmlet_ready_queue.specs.Index.Index.{Indexed, IsIndexOf}
use Rattle.charmlet_ready_queue.proofs.index.index.Index.next_in.Goals as goal

pub returns-clause-index : goal.returns-clause-index
returns-clause-index g c = λ seq_nos place is climbs on_all. c.next_of.ensures.index seq_nos place (subst (λ (v : Indexed). IsIndexOf seq_nos place v.lists) (sym c.self.view_is) is) climbs (subst (λ (v : Indexed). AllByRecursion (λ n. (place n).on < length v.lists) seq_nos) (sym c.self.view_is) on_all)

pub returns-clause-placed : goal.returns-clause-placed
returns-clause-placed g c = λ seq_nos place is. c.next_of.ensures.placed seq_nos place (subst (λ (v : Indexed). IsIndexOf seq_nos place v.lists) (sym c.self.view_is) is)
