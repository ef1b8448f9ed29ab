use Rattle.std.proofs.Common.{◌≡◌, true, false, [], ◌∷◌, ap, get_or}
use Rattle.std.specs.Prelude.{slice_set}
use Rattle.std.proofs.lemmas.List.Elements.{All-get_or}
use Rattle.charmlet_shard.proofs.Results.{value_then}
use Rattle.charmlet_replayers.specs.Dispatch.Blank.{AreSameReplayers, GoesTo, HasMore}
use Rattle.charmlet_replayers.specs.Dispatch.Keeping.{IsHeldReplayer}
use Rattle.charmlet_replayers.proofs.DispatchLemmas.ReplayerLists.{goes_to, keeps_one, same_replayers}
use Rattle.charmlet_replayers.proofs.dispatch.tasks.give_one.Goals as goal

pub give_task-requires-clause-held : goal.give_task-requires-clause-held
give_task-requires-clause-held g c κs within =
    let replayers = c.args.replayers.now in
    All-get_or IsHeldReplayer replayers c.args.worker c.index-replayers-worker.result c.requires.within c.requires.held

pub returns-clause-keeps : goal.returns-clause-keeps
returns-clause-keeps g c =
    let replayers = c.args.replayers.now in
    let old = get_or replayers c.args.worker c.index-replayers-worker.result in
    let is : old ≡ get_or replayers c.args.worker old = ap (get_or replayers c.args.worker) c.index-replayers-worker.is in
    keeps_one c.args.manifest.now c.args.replayers.now c.args.worker c.requires.within old is c.give_task.new.replayer c.args.stock.now c.give_task.new.stock
    c.give_task.ensures.held c.requires.held c.give_task.ensures.total c.give_task.ensures.drawn c.give_task.ensures.keeping

pub returns-clause-goes : goal.returns-clause-goes
returns-clause-goes g c =
    let replayers = c.args.replayers.now in
    let old = get_or replayers c.args.worker c.index-replayers-worker.result in
    let is : old ≡ get_or replayers c.args.worker old = ap (get_or replayers c.args.worker) c.index-replayers-worker.is in
    let kinds = c.args.manifest.now in
    let new = c.give_task.new.replayer in
    value_then (λ done. done ≡ true → HasMore kinds (c.args.task ∷ []) old new) (λ done. done ≡ true → GoesTo kinds c.args.worker c.args.task c.args.replayers.now (slice_set c.args.replayers.now c.args.worker new)) c.give_task.result
    (λ done more so. goes_to kinds c.args.replayers.now c.args.worker c.requires.within old is new c.args.task (more so)) c.give_task.ensures.more

pub returns-clause-same : goal.returns-clause-same
returns-clause-same g c =
    let replayers = c.args.replayers.now in
    let old = get_or replayers c.args.worker c.index-replayers-worker.result in
    let is : old ≡ get_or replayers c.args.worker old = ap (get_or replayers c.args.worker) c.index-replayers-worker.is in
    let new = c.give_task.new.replayer in
    value_then (λ done. done ≡ false → (c.give_task.new.stock ≡ c.args.stock.now) × (new ≡ old)) (λ done. done ≡ false → (c.give_task.new.stock ≡ c.args.stock.now) × AreSameReplayers c.args.replayers.now (slice_set c.args.replayers.now c.args.worker new)) c.give_task.result
    (λ done same so. ((same so).0, same_replayers c.args.manifest.now c.args.replayers.now c.args.worker c.requires.within old is new (same so).1)) c.give_task.ensures.same
