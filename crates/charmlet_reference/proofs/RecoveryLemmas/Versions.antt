-- What two files recover to is what they recover to as written, in the newest versions.
use Rattle.std.proofs.Common.{◌≡◌, ℕ, List, refl}
use Rattle.charmlet_model.specs.declared.half.Half.{Half}
use Rattle.charmlet_model.specs.declared.half.Half.TheVariants.{Zero, One}
use Rattle.charmlet_image.specs.Halves.{Taken, NothingHere, Takes, DamagedAt, taken}
use Rattle.charmlet_image.specs.Images.{Saved}
use Rattle.charmlet_recovery.specs.Meanings.{Meaning, Faulty, Whole}
use Rattle.charmlet_recovery.specs.Recovered.{recovered, recovered_by, recovered_from, upgraded}
use Rattle.charmlet_reference.specs.Recovery.Written.{as_written_from, gone_on, meaning_as_written, recovered_as_written}

by_meaning : (half : Half) (s : Saved) (m : Meaning) → gone_on (recovered_by half s m) ≡ recovered_by half s (upgraded m)
by_meaning half s (Faulty place) = refl
by_meaning half s (Whole w count) = refl

by_half : (t : Taken) → gone_on (as_written_from t) ≡ recovered_from t
by_half NothingHere = refl
by_half (DamagedAt half offset) = refl
by_half (Takes half s) = by_meaning half s (meaning_as_written s)

pub goes_on : (outcome : Half → List ℕ) → gone_on (recovered_as_written outcome) ≡ recovered outcome
unfolding recovered recovered_as_written
goes_on outcome = by_half (taken (outcome Zero) (outcome One))
