use Rattle.charmlet_image.proofs.PlaceLemmas.{records_stand_there}
use Rattle.charmlet_image.proofs.laws.records_stand_there.Goals as goal

pub returns : goal.returns
returns c = records_stand_there
