use Rattle.charmlet_requests.proofs.Rising.{told_rises, truth_is_told}
use Rattle.charmlet_requests.proofs.laws.told_rises.Goals as goal

pub returns-clause-rises : goal.returns-clause-rises
returns-clause-rises c = told_rises

pub returns-clause-truth : goal.returns-clause-truth
returns-clause-truth c = truth_is_told
