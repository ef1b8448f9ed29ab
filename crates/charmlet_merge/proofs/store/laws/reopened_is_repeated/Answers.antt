use Rattle.charmlet_merge.proofs.StoreLemmas.Repeated.{is-repeated}
use Rattle.charmlet_merge.proofs.store.laws.reopened_is_repeated.Goals as goal

pub returns : goal.returns
returns c = is-repeated
