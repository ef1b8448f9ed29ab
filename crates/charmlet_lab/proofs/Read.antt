-- The world that is read of an image.
use Rattle.std.proofs.Common.{◌≡◌, ℕ, ◌+◌, arith, List, [], ◌∷◌, ◌++◌, inl, refl, sym, subst}
use Rattle.std.proofs.Math.Seq.{take-append_seam, get_or-append_seam}
use Rattle.std.proofs.lemmas.List.{length-append}
use Rattle.charmlet_model.specs.declared.half.Half.TheVariants.{Zero}
use Rattle.charmlet_model.specs.Core.{Core, present}
use Rattle.charmlet_model.specs.KindVersion.{AreNewest}
use Rattle.charmlet_model.specs.Sound.{IsSound}
use Rattle.charmlet_model.specs.World.{World}
use Rattle.charmlet_model.proofs.SoundLemmas.{sound_fit}
use Rattle.charmlet_image.specs.Images.{spell_half}
use Rattle.charmlet_image.specs.Spelled.{Spells}
use Rattle.charmlet_recovery.specs.Recovered.{Found, recovered}
use Rattle.charmlet_recovery.specs.Stores.{saved_of}
use Rattle.charmlet_recovery.proofs.Saving.{files_of_histories_recover}
use Rattle.charmlet_recovery.proofs.Writing.{images_have_size}
use Rattle.charmlet_persist.specs.Snapshot.Showing.{IsImageOf, IsWithinLimits, event_count}
use Rattle.charmlet_reference.specs.declared.recovery.recovered.Recovered.{Recovered}
use Rattle.charmlet_reference.specs.declared.recovery.recovered.Recovered.TheVariants as plain
use Rattle.charmlet_reference.specs.Recovery.Views.{files, seen}

-- a text before a closed gate is spelled
spells_closed : (bytes text : List ℕ) → bytes ≡ text ++ 0 ∷ [] → Spells bytes text
spells_closed bytes text is = subst (λ (l : List ℕ). Spells l text) (sym is) (record {
  front = take-append_seam text (0 ∷ []);
  inside = omega (arith, length-append text (0 ∷ []));
  closed = λ h. (let no : ⊥ = let zero = get_or-append_seam text 0 [] 0 in omega (arith, zero, h) in no);
})

-- the image of a sound store of newest versions, after an open gate and with nothing in the other
-- half, recovers to its world
pub image_recovers : (core : Core) (bytes : List ℕ) → IsSound core → AreNewest (present core).manifest → IsImageOf core bytes → IsWithinLimits core →
    recovered (files (1 ∷ bytes) []) ≡ Found (present core) (event_count core + 0) (core.generation + 1)
image_recovers core bytes sound newest is within =
    let w = present core in
    let count = event_count core in
    let room = sound.room in
    let low = within.generation in
    let short = within.size in
    files_of_histories_recover (files (1 ∷ bytes) []) Zero w count (core.generation + 1) [] [] (sound_fit core sound) newest (record { events = tt; each_can = refl; in_limit = omega arith })
    (record { some = tt; few = tt; whole = refl }) (record { above = omega arith; below = omega arith }) (omega (arith, images_have_size w, short))
    (spells_closed (1 ∷ bytes) (spell_half (saved_of w count (core.generation + 1) [])) is) (inl refl)

-- what is seen as a world is one
pub seen_found : (r : Recovered) (w : World) (n g : ℕ) → seen r ≡ Found w n g → ((x : World) (m k : ℕ) → r ≡ plain.Found x m k → ⊥) → ⊥
seen_found plain.Nothing w n g is none = let no : ⊥ = cc in no
seen_found (plain.Damaged half offset) w n g is none = let no : ⊥ = cc in no
seen_found (plain.Found x m k) w n g is none = none x m k refl
