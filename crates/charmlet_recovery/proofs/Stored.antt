-- What is stored is recovered, and what is recovered was stored.
use Rattle.std.proofs.Common.{◌≡◌, ℕ, List, refl, sym, ap, ◌∙◌}
use Rattle.charmlet_model.specs.declared.half.Half.{Half}
use Rattle.charmlet_model.specs.declared.half.Half.TheVariants.{Zero, One}
use Rattle.charmlet_model.specs.World.{World}
use Rattle.charmlet_image.specs.Images.{Saved}
use Rattle.charmlet_image.specs.Halves.{Shut, top, Taken, NothingHere, Takes, DamagedAt, taken}
use Rattle.charmlet_recovery.specs.Meanings.{Meaning, Faulty, Whole}
use Rattle.charmlet_recovery.specs.Recovered.{Nothing, Found, meaning_of, recovered_by, recovered_from, recovered}
use Rattle.charmlet_recovery.specs.FileLaws.{ClosedIsNothing, NothingIsClosed, RecoveredIsTaken, StoredIsRecovered, RecoveredWasStored, StoredIsOne}
use Rattle.charmlet_recovery.proofs.Files.{closed_is_nothing, nothing_is_closed, stored_is_taken, taken_was_stored}

pub recovered_is_taken : RecoveredIsTaken
unfolding recovered
recovered_is_taken outcome = refl

pub stored_is_recovered : StoredIsRecovered
stored_is_recovered outcome w count generation is =
    recovered_is_taken outcome
    ∙ ap recovered_from (stored_is_taken outcome is.half is.saved is.stored)
    ∙ ap (recovered_by is.half is.saved) is.means
    ∙ ap (Found w count) is.has_generation

-- what a half that is found means
pub record FoundFrom (s : Saved) (m : Meaning) (w : World) (count generation : ℕ) : Type 0 where
  pub means : m ≡ Whole w count
  pub has_generation : s.header.generation ≡ generation

found-by : (half : Half) (s : Saved) (m : Meaning) (w : World) (count generation : ℕ) → recovered_by half s m ≡ Found w count generation → FoundFrom s m w count generation
found-by half s (Faulty place) w count generation e = absurd cc
found-by half s (Whole v n) w count generation e =
    let a : v ≡ w = cc in let b : n ≡ count = cc in record { means = λ i. Whole (a i) (b i); has_generation = cc }

pub found-from : (outcome : Half → List ℕ) (t : Taken) (w : World) (count generation : ℕ) → recovered_from t ≡ Found w count generation → taken (outcome Zero) (outcome One) ≡ t →
    (half : Half) × (s : Saved) × (taken (outcome Zero) (outcome One) ≡ Takes half s) × FoundFrom s (meaning_of s) w count generation
found-from outcome NothingHere w count generation e is = absurd cc
found-from outcome (DamagedAt half offset) w count generation e is = absurd cc
found-from outcome (Takes half s) w count generation e is = (half, s, is, found-by half s (meaning_of s) w count generation e)

pub recovered_was_stored : RecoveredWasStored
recovered_was_stored outcome w count generation bytes e =
    let found = found-from outcome (taken (outcome Zero) (outcome One)) w count generation (sym (recovered_is_taken outcome) ∙ e) refl in
    record { half = found.0; saved = found.1; stored = taken_was_stored outcome found.0 found.1 bytes found.2; means = found.3.means; has_generation = found.3.has_generation }

pub stored_is_one : StoredIsOne
stored_is_one outcome v w n m g h one two =
    let same : Found v n g ≡ Found w m h = sym (stored_is_recovered outcome v n g one) ∙ stored_is_recovered outcome w m h two in
    ((let is : v ≡ w = cc in is), (let is : n ≡ m = cc in is), (let is : g ≡ h = cc in is))

-- ---- nothing

pub closed_recovers_to_nothing : ClosedIsNothing
closed_recovers_to_nothing outcome closed = recovered_is_taken outcome ∙ ap recovered_from (closed_is_nothing (outcome Zero) (outcome One) (closed Zero) (closed One))

none-taken : (t : Taken) → recovered_from t ≡ Nothing → t ≡ NothingHere
none-taken NothingHere e = refl
none-taken (DamagedAt half offset) e = absurd cc
none-taken (Takes half s) e = by (meaning_of s) e
  where
    by : (m : Meaning) → recovered_by half s m ≡ Nothing → Takes half s ≡ NothingHere
    by (Faulty place) e = absurd cc
    by (Whole w count) e = absurd cc

pub nothing_was_closed : NothingIsClosed
nothing_was_closed outcome e half =
    let both = nothing_is_closed (outcome Zero) (outcome One) (none-taken (taken (outcome Zero) (outcome One)) (sym (recovered_is_taken outcome) ∙ e)) in
    elim half as (λ h. top (outcome h) ≡ Shut) [ Zero ↦ both.0 | One ↦ both.1 ]
