use Rattle.charmlet_persist.proofs.FuzzyCheckpointLemmas.Shelves.{shelves_are_taken}
use Rattle.charmlet_persist.proofs.fuzzy_checkpoint.laws.shelves_are_taken.Goals as goal

pub returns : goal.returns
returns c = shelves_are_taken
