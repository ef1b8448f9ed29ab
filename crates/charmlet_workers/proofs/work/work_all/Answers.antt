use Rattle.std.proofs.Common.{subst}
use Rattle.charmlet_workers.specs.declared.work.WorkerSlot.{WorkerSlot}
use Rattle.charmlet_workers.specs.Working.{HasServed}
use Rattle.charmlet_workers.proofs.work.work_all.Goals as goal

pub returns : goal.returns
returns g c = λ i d less.
    let h = (c.for_each_mut.ensures i d less).1 in
    let call : HasServed h.argument.now.seat h.after_call.now.seat c.args.turns h.after_call.now.worked = h.call in
    subst (λ (x : WorkerSlot g.row.B.Denot × WorkerSlot g.row.B.Denot). HasServed x.0.seat x.1.seat c.args.turns x.1.worked) (λ k. (h.argument_is k, h.left k)) call
