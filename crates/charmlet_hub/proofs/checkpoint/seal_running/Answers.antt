use Rattle.charmlet_hub.proofs.Checkpoints.{limits_if}
use Rattle.charmlet_hub.proofs.checkpoint.seal_running.Goals as goal

pub returns-clause-full : goal.returns-clause-full
returns-clause-full g c = limits_if c.args.sequencer.now.core c.args.running.now c.in-Some.running c.in-Some.is c.seal_running.result c.seal_running.ensures.full
