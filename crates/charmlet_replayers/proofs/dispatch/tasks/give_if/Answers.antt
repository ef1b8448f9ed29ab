use Rattle.std.proofs.Common.{◌≡◌, true, ap, length, ◌∙◌}
use Rattle.charmlet_shard.proofs.Results.{value_then}
use Rattle.charmlet_replayers.specs.Dispatch.Blank.{AreGivenTo, GoesTo}
use Rattle.charmlet_replayers.specs.Dispatch.Sharing.{worker_of}
use Rattle.charmlet_replayers.proofs.DispatchLemmas.ReplayerLists.{given_to}
use Rattle.charmlet_replayers.proofs.dispatch.tasks.give_if.Goals as goal

pub returns-clause-goes : goal.returns-clause-goes
returns-clause-goes g c =
    let olds = c.args.replayers.now in
    let news = c.give_one.new.replayers in
    let t = c.in-Some.task in
    let i = c.worker_of-worker.result in
    let kinds = c.args.world.now.manifest in
    let worker = worker_of c.args.world.now.processors (length olds) in
    value_then (λ done. done ≡ true → GoesTo c.manifest.result.now i t olds news) (λ done. done ≡ true → AreGivenTo kinds worker c.args.task olds news) c.give_one.result
    (λ done goes so. given_to c.manifest.result.now kinds worker i t c.args.task olds news c.manifest.ensures (c.worker_of-worker.ensures.worker ∙ ap (λ n. worker_of n (length olds) t.message.to) c.processors.ensures.count) c.in-Some.is (goes so)) c.give_one.ensures.goes
