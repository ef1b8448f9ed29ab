use Rattle.charmlet_image.proofs.SpelledLemmas.{spelled_is_found, found_is_spelled, closed_is_shut}
use Rattle.charmlet_image.proofs.laws.files_begin_with_halves.Goals as goal

pub returns : goal.returns
returns c = record { found = spelled_is_found; spelled = found_is_spelled; closed = closed_is_shut }
