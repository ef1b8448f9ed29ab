use Rattle.std.proofs.Common.{◌<◌, length, sym, subst}
use Rattle.std.specs.List.{AllByRecursion}
use Rattle.charmlet_ready_queue.specs.Index.Index.{Indexed, IsIndexOf}
use Rattle.charmlet_ready_queue.proofs.index.index.Index.quiet.Goals as goal

pub returns : goal.returns
returns c = λ seq_nos place is on_all. c.none_ready.ensures seq_nos place (subst (λ (v : Indexed). IsIndexOf seq_nos place v.lists) (sym c.self.view_is) is) (subst (λ (v : Indexed). AllByRecursion (λ n. (place n).on < length v.lists) seq_nos) (sym c.self.view_is) on_all)
