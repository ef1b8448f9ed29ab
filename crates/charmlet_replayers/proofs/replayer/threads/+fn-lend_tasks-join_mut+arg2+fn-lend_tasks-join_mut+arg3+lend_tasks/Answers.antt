use Rattle.std.proofs.Common.{◌≡◌, ◌++◌, rules}
use Rattle.std.specs.List.{AllZip}
use Rattle.charmlet_replayers.specs.Replayer.Tasks.{IsDoneReplayer}
use Rattle.charmlet_replayers.proofs.ReplayerLemmas.Zips.{zip-halves}
use Rattle.charmlet_replayers.proofs.replayer.threads.+fn-lend_tasks-join_mut+arg2+fn-lend_tasks-join_mut+arg3+lend_tasks.Goals as goal

pub returns : goal.returns
returns g t c =
    let one = c.split_at_mut-front.result.0.now in
    let two = c.split_at_mut-front.result.1.now in
    let whole : c.args.replayers.now ≡ one ++ two = search rules in
    let front : AllZip (IsDoneReplayer c.args.manifest.now) one c.front-1.given.0 = search rules in
    let back : AllZip (IsDoneReplayer c.args.manifest.now) two c.back-1.given.0 = search rules in
    zip-halves (IsDoneReplayer c.args.manifest.now) c.args.replayers.now one c.front-1.given.0 two c.back-1.given.0 whole front back
