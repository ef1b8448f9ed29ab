use Rattle.charmlet_world.proofs.laws.requests_are_new.Goals as goal
use Rattle.charmlet_world.proofs.Suiting.{requests_are_new}

pub returns : goal.returns
returns c = requests_are_new
