use Rattle.std.proofs.Common.{◌<◌, length, sym, subst}
use Rattle.charmlet_ready_queue.specs.Index.Index.{Indexed, IsIndexOf}
use Rattle.charmlet_ready_queue.proofs.index.index.Index.oldest_on.Goals as goal

pub returns-clause-index : goal.returns-clause-index
returns-clause-index g c = λ seq_nos place is within. c.oldest_of.ensures.index seq_nos place (subst (λ (v : Indexed). IsIndexOf seq_nos place v.lists) (sym c.self.view_is) is) (subst (λ (v : Indexed). c.args.on < length v.lists) (sym c.self.view_is) within)
