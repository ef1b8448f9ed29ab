use Rattle.std.proofs.Common.{length}
use Rattle.charmlet_replayers.proofs.replayer.threads.+fn-lend_tasks-join_mut+arg2+fn-lend_tasks-join_mut+arg3+lend_tasks.Given as goal

abbrev pub decreases-join_mut+arg2 : goal.decreases-join_mut+arg2
decreases-join_mut+arg2 g l = length l.front.now

abbrev pub decreases-join_mut+arg3 : goal.decreases-join_mut+arg3
decreases-join_mut+arg3 g l = length l.back.now

abbrev pub decreases-lend_tasks : goal.decreases-lend_tasks
decreases-lend_tasks g l = length l.replayers.now
