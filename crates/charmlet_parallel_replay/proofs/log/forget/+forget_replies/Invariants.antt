use Rattle.std.proofs.Common.{length}
use Rattle.charmlet_parallel_replay.proofs.log.forget.+forget_replies.Given as goal

abbrev pub decreases-forget_replies : goal.decreases-forget_replies
decreases-forget_replies g l = length l.replayers.now
