use Rattle.charmlet_world.specs.Waiting.{pending_messages}
use Rattle.charmlet_world.proofs.Holes.{passed_one}
use Rattle.charmlet_world.proofs.PendingMessages.{value_pending_messages}
use Rattle.charmlet_world.proofs.pending.first_pending_message.Goals as goal

pub loop-index-preserved : goal.loop-index-preserved
loop-index-preserved c =
    let es = c.args.envelopes.now.entries in
    passed_one (pending_messages es) c.loop-index.index c.index.result.now.pending_message c.loop-index.invariant (value_pending_messages es c.loop-index.index c.index.result.now c.index.ensures) c.if-is_some.ensures
