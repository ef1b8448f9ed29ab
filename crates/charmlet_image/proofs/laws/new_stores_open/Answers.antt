use Rattle.charmlet_image.proofs.NewStoreLemmas.{new_stores_open}
use Rattle.charmlet_image.proofs.laws.new_stores_open.Goals as goal

pub returns : goal.returns
returns c = new_stores_open
