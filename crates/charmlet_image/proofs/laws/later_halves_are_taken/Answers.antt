use Rattle.charmlet_image.proofs.HalfLemmas.{later_halves_are_taken}
use Rattle.charmlet_image.proofs.laws.later_halves_are_taken.Goals as goal

pub returns : goal.returns
returns c = later_halves_are_taken
