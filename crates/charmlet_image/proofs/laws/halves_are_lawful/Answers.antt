use Rattle.charmlet_image.proofs.HalfLemmas.{halves_are_read, read_halves_were_spelled, halves_are_one, batches_are_appended}
use Rattle.charmlet_image.proofs.laws.halves_are_lawful.Goals as goal

pub returns : goal.returns
returns c = record { read_back = halves_are_read; spelled_so = read_halves_were_spelled; one = halves_are_one; appended = batches_are_appended }
