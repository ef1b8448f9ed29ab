use Rattle.charmlet_world.proofs.envelopes.seq_at.Goals as goal
use Rattle.charmlet_world.proofs.Climbing.{seq_there}

pub returns : goal.returns
returns c = seq_there c.args.envelopes.now.entries c.args.place c.index.result.now c.index.ensures
