use Rattle.charmlet_replayers.specs.Replayer.Replayers.{HasTakenAgain, IsCaughtUpReplayer}
use Rattle.charmlet_replayers.specs.Replayer.Workers.{HasSameTasks, IsWhole}
use Rattle.charmlet_replayers.proofs.ReplayerLemmas.ReplayerStops.{go-on, zip-map}
use Rattle.charmlet_replayers.proofs.ReplayerLemmas.ByWorkers.{fault-is, parts-are, passes}
use Rattle.charmlet_shard.proofs.Results.{ok_then}
use Rattle.charmlet_replayers.proofs.replayer.workers.catch_up_by_workers.Goals as goal

pub returns-clause-ok : goal.returns-clause-ok
returns-clause-ok g c = λ worker records ds dispatched.
    ok_then _ _ c.stop_of_replayers.result
    (λ found. (passes c.args.manifest.now worker records ds c.args.replayers.now c.lend_deliveries.new.replayers dispatched c.lend_deliveries.ensures found.1 found.0, parts-are c.args.manifest.now worker records ds c.args.replayers.now c.lend_deliveries.new.replayers dispatched c.lend_deliveries.ensures found.1 found.0))
    c.stop_of_replayers.ensures.ok

pub returns-clause-fault : goal.returns-clause-fault
returns-clause-fault g c = λ worker records ds dispatched fault is.
    let found = c.stop_of_replayers.ensures.fault fault is in
    fault-is c.args.manifest.now worker records ds c.args.replayers.now c.lend_deliveries.new.replayers dispatched c.lend_deliveries.ensures found.1 fault found.0

pub returns-clause-taken : goal.returns-clause-taken
returns-clause-taken g c =
    let manifest = c.args.manifest.now in
    ok_then _ _ c.stop_of_replayers.result
    (λ found. go-on (IsCaughtUpReplayer manifest) (HasTakenAgain manifest) c.args.replayers.now c.lend_deliveries.new.replayers c.lend_deliveries.ensures found.1 found.0 (λ old new done none. done.taken none))
    c.stop_of_replayers.ensures.ok

pub returns-clause-tasks : goal.returns-clause-tasks
returns-clause-tasks g c = zip-map (IsCaughtUpReplayer c.args.manifest.now) HasSameTasks c.args.replayers.now c.lend_deliveries.new.replayers c.lend_deliveries.ensures (λ old new done. done.tasks)

pub returns-clause-whole : goal.returns-clause-whole
returns-clause-whole g c =
    zip-map (IsCaughtUpReplayer c.args.manifest.now) IsWhole c.args.replayers.now c.lend_deliveries.new.replayers c.lend_deliveries.ensures
    (λ old new done. record { held = done.held; processors = done.processors; supplied = done.supplied })
