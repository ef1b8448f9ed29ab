-- The bytes of an image, as a seal takes them.
use Rattle.std.proofs.Common.{◌≡◌, ℕ, ◌+◌, List, [], refl, subst, arith}
use Rattle.charmlet_model.specs.Core.{Core, present}
use Rattle.charmlet_model.specs.Sound.{IsSound}
use Rattle.charmlet_model.specs.World.{IsLegal}
use Rattle.charmlet_model.proofs.SoundLemmas.{sound_fit}
use Rattle.charmlet_image.specs.FitImages.{image_of}
use Rattle.charmlet_image.specs.Halves.{IsSaved}
use Rattle.charmlet_recovery.specs.Meanings.{Whole, meaning}
use Rattle.charmlet_recovery.specs.Moments.{IsTakenDuring}
use Rattle.charmlet_recovery.specs.Stores.{half_with}
use Rattle.charmlet_recovery.proofs.Writing.{images_have_size, taken_images_are_saved}
use Rattle.charmlet_persist.specs.Writes.Rest.{IsSealing}
use Rattle.charmlet_persist.specs.Snapshot.Showing.{IsImageOf, IsWithinLimits, event_count, sealed_saved}

-- the image of the present world was taken while nothing happened
pub sealed : (core : Core) (bytes : List ℕ) → IsSound core → IsWithinLimits core → IsImageOf core bytes → IsSealing core bytes
sealed core bytes sound within is =
    let w = present core in
    let count = event_count core in
    let fit = sound_fit core sound in
    let limit = sound.legal.in_limit in
    let legal : IsLegal w count [] = record { events = tt; each_can = refl; in_limit = omega arith } in
    let taken : IsTakenDuring w [] (image_of w) = record {
      manifest = refl;
      clients = refl;
      pending = refl;
      rising = fit.rising_records;
      no_empty = fit.no_empty_record;
      records = λ x. (0, refl);
      caught_up = refl;
    } in
    let size = within.size in
    let low = within.generation in
    let saved = taken_images_are_saved w count (core.generation + 1) [] (image_of w) fit legal taken (record { above = omega arith; below = omega arith }) (omega (arith, images_have_size w, size)) in
    let none : count + 0 ≡ count = omega arith in
    record {
      saved = sealed_saved core;
      text = is;
      no_batch = refl;
      good = subst (λ (n : ℕ). IsSaved (half_with (image_of w) n (core.generation + 1))) none saved.0;
      means = subst (λ (n : ℕ). meaning (image_of w) n [] ≡ Whole w n) none saved.1;
      has_generation = refl;
    }
