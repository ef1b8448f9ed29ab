use Rattle.std.proofs.Common.{◌<◌, sym, subst}
use Rattle.std.specs.Prelude.{IfSome}
use Rattle.charmlet_world.specs.Seen.{element_at}
use Rattle.charmlet_world.specs.Standing.{risen}
use Rattle.charmlet_world.proofs.Tying.{tied_new}
use Rattle.charmlet_world.proofs.scheduler.Scheduler.new.Goals as goal

pub invariant_of-result : goal.invariant_of-result
invariant_of-result c = tied_new c.args.processors c.new.result.entries c.new-2.result c.new-3.result c.requires
    (λ x. subst (λ es. IfSome (element_at (risen es) x).place (λ q. q < c.args.processors)) (sym c.new.ensures) tt)
    c.new-2.ensures.seq_nos c.new-2.ensures.messages c.new-2.ensures.next c.new-3.ensures.lists c.new-3.ensures.headroom c.new-3.ensures.next
