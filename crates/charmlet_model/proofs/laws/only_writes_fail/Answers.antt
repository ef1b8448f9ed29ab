use Rattle.charmlet_model.proofs.DeviceLemmas.{only_writes_fail}
use Rattle.charmlet_model.proofs.laws.only_writes_fail.Goals as goal

pub returns : goal.returns
returns c = only_writes_fail
