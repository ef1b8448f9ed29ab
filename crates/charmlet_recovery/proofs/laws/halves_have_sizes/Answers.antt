use Rattle.charmlet_recovery.proofs.Writing.{images_have_size, halves_have_size, batches_lengthen}
use Rattle.charmlet_recovery.proofs.laws.halves_have_sizes.Goals as goal

pub returns : goal.returns
returns c = record { image = images_have_size; half = halves_have_size; batch = batches_lengthen }
