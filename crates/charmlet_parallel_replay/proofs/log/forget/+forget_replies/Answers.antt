use Rattle.std.proofs.Common.{◌≡◌, ◌++◌, rules}
use Rattle.charmlet_replayers.proofs.ReplayerLemmas.Zips.{zip-halves}
use Rattle.charmlet_parallel_replay.specs.Log.LogRound.{HasNoReplies}
use Rattle.charmlet_parallel_replay.proofs.log.forget.+forget_replies.Goals as goal

pub returns : goal.returns
returns g t c =
    let one = c.split_at_mut-front.result.0.now in
    let two = c.split_at_mut-front.result.1.now in
    let whole : c.args.replayers.now ≡ one ++ two = search rules in
    zip-halves HasNoReplies c.args.replayers.now one c.forget_replies.new.replayers two c.forget_replies-2.new.replayers whole c.forget_replies.ensures c.forget_replies-2.ensures
