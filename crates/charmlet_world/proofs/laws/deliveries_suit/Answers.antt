use Rattle.charmlet_world.proofs.laws.deliveries_suit.Goals as goal
use Rattle.charmlet_world.proofs.Suiting.{deliveries_suit}

pub returns : goal.returns
returns c = deliveries_suit
