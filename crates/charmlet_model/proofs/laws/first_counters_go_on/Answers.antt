use Rattle.charmlet_model.proofs.Upgrades.{counters_go_on}
use Rattle.charmlet_model.proofs.laws.first_counters_go_on.Goals as goal

pub returns : goal.returns
returns c = counters_go_on
