use Rattle.charmlet_recovery.proofs.Values.{seals}
use Rattle.charmlet_recovery.proofs.Moments.{moment-below, moment-present, moment-absent}
use Rattle.charmlet_recovery.proofs.Recovered.{deliveries-append}
use Rattle.charmlet_recovery.proofs.Sealed.{sealed_images_are_written}
use Rattle.charmlet_recovery.proofs.laws.seals_recover.Goals as goal

pub returns : goal.returns
returns c = record {
  seals = seals;
  moments = λ x n w events. (moment-below x n w events, moment-present x n w events, moment-absent x n w events);
  lists = deliveries-append;
  written = sealed_images_are_written;
}
