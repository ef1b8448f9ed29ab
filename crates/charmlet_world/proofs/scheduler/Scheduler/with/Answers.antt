use Rattle.charmlet_world.proofs.Tying.{tied_new}
use Rattle.charmlet_world.proofs.scheduler.Scheduler.with.Goals as goal

pub invariant_of-result : goal.invariant_of-result
invariant_of-result c = tied_new c.args.processors c.args.elements.entries c.new.result c.new-2.result c.requires.processors c.requires.places
    c.new.ensures.seq_nos c.new.ensures.messages c.new.ensures.next c.new-2.ensures.lists c.new-2.ensures.headroom c.new-2.ensures.next
