use Rattle.std.proofs.Common.{length}
use Rattle.charmlet_replayers.proofs.replayer.threads.+fn-lend_deliveries-join_mut+arg2+fn-lend_deliveries-join_mut+arg3+lend_deliveries.Given as goal

abbrev pub decreases-join_mut+arg2 : goal.decreases-join_mut+arg2
decreases-join_mut+arg2 g l = length l.front.now

abbrev pub decreases-join_mut+arg3 : goal.decreases-join_mut+arg3
decreases-join_mut+arg3 g l = length l.back.now

abbrev pub decreases-lend_deliveries : goal.decreases-lend_deliveries
decreases-lend_deliveries g l = length l.replayers.now
