use Rattle.std.proofs.Common.{sym, subst}
use Rattle.std.specs.List.{AllZip}
use Rattle.charmlet_replayers.specs.Replayer.Tasks.{HasNoTask, HasTaken, IsDoneReplayer}
use Rattle.charmlet_replayers.specs.Replayer.Workers.{IsWhole}
use Rattle.charmlet_replayers.proofs.ReplayerLemmas.ReplayerStops.{go-on, zip-all, zip-map}
use Rattle.charmlet_shard.proofs.Results.{ok_then}
use Rattle.charmlet_replayers.proofs.ReplayerLemmas.TasksByWorkers.{begins, fault-is, parts-are, passes, replies-are}
use Rattle.charmlet_replayers.proofs.replayer.workers.redo_by_workers.Goals as goal

pub returns-clause-ok : goal.returns-clause-ok
returns-clause-ok g c = λ worker w before scan log same dispatched.
    let olds = c.args.replayers.now in
    let news = c.lend_tasks.new.replayers in
    let zip : AllZip (IsDoneReplayer w.manifest) olds news = subst (λ kinds. AllZip (IsDoneReplayer kinds) olds news) (sym same) c.lend_tasks.ensures in
    ok_then _ _ c.stop_of_replayers.result
    (λ found. (passes worker w before scan log olds news dispatched zip found.1 found.0, begins worker w before scan log olds news dispatched zip found.1 found.0, parts-are worker w before scan log olds news dispatched zip found.1 found.0))
    c.stop_of_replayers.ensures.ok

pub returns-clause-replies : goal.returns-clause-replies
returns-clause-replies g c = λ worker w before scan log same dispatched.
    let olds = c.args.replayers.now in
    let news = c.lend_tasks.new.replayers in
    let zip : AllZip (IsDoneReplayer w.manifest) olds news = subst (λ kinds. AllZip (IsDoneReplayer kinds) olds news) (sym same) c.lend_tasks.ensures in
    ok_then _ _ c.stop_of_replayers.result (λ found. replies-are worker w before scan log olds news dispatched zip found.1 found.0) c.stop_of_replayers.ensures.ok

pub returns-clause-fault : goal.returns-clause-fault
returns-clause-fault g c = λ worker w before scan log same dispatched fault is.
    let olds = c.args.replayers.now in
    let news = c.lend_tasks.new.replayers in
    let zip : AllZip (IsDoneReplayer w.manifest) olds news = subst (λ kinds. AllZip (IsDoneReplayer kinds) olds news) (sym same) c.lend_tasks.ensures in
    let found = c.stop_of_replayers.ensures.fault fault is in
    fault-is worker w before scan log olds news dispatched zip found.1 fault found.0

pub returns-clause-taken : goal.returns-clause-taken
returns-clause-taken g c =
    let manifest = c.args.manifest.now in
    ok_then _ _ c.stop_of_replayers.result
    (λ found. go-on (IsDoneReplayer manifest) (HasTaken manifest) c.args.replayers.now c.lend_tasks.new.replayers c.lend_tasks.ensures found.1 found.0 (λ old new done none. done.taken none))
    c.stop_of_replayers.ensures.ok

pub returns-clause-idle : goal.returns-clause-idle
returns-clause-idle g c = zip-all (IsDoneReplayer c.args.manifest.now) HasNoTask c.args.replayers.now c.lend_tasks.new.replayers c.lend_tasks.ensures (λ old new done. done.idle)

pub returns-clause-whole : goal.returns-clause-whole
returns-clause-whole g c =
    zip-map (IsDoneReplayer c.args.manifest.now) IsWhole c.args.replayers.now c.lend_tasks.new.replayers c.lend_tasks.ensures
    (λ old new done. record { held = done.held; processors = done.processors; supplied = done.supplied })
