use Rattle.charmlet_image.proofs.ReachLemmas.{image_within, header_within, saved_within}
use Rattle.charmlet_image.proofs.laws.faults_are_within.Goals as goal

pub returns : goal.returns
returns c = record { images = image_within; headers = header_within; halves = saved_within }
