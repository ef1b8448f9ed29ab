-- What one half recovers to, and why nothing is found.
use Rattle.std.proofs.Common.{◌≡◌, ℕ, true, List, [], ap, length}
use Rattle.std.specs.Prelude.{Result, Ok, Err, IfErr}
use Rattle.charmlet_model.specs.declared.half.Half.TheVariants.{Zero, One}
use Rattle.charmlet_model.specs.declared.refusal.Refusal.{Refusal}
use Rattle.charmlet_model.specs.declared.refusal.Refusal.TheVariants as refusals
use Rattle.charmlet_disk.specs.File.{CrashBytes}
use Rattle.charmlet_image.specs.Images.{Saved}
use Rattle.charmlet_image.specs.Halves.{Top, Shut, Begun, Broken, Taken, Takes, Open, choice, found, found_from, taken, taken_half, top}
use Rattle.charmlet_halves.specs.Answers.{is_finding_refusal}
use Rattle.charmlet_halves.specs.Found.{Finds}
use Rattle.charmlet_locate.specs.Locations.{is_processor_count}
use Rattle.charmlet_reference.specs.Recovery.Views.{files}
use Rattle.charmlet_reference.specs.Recovery.Written.{as_written_from, recovered_as_written}
use Rattle.charmlet_dump.specs.declared.found.Found.{Found}
use Rattle.charmlet_dump.specs.Answers.{Comes, IsAnswer}

-- a half beside one that is shut
beside_one : (size more : ℕ) (t : Top) (s : Saved) → found_from size t ≡ Open s → choice size t more Shut ≡ Takes Zero s
beside_one size more Shut s is = absurd cc
beside_one size more (Begun h bytes) s is = ap (taken_half Zero) is
beside_one size more (Broken offset) s is = absurd cc

beside_zero : (size more : ℕ) (t : Top) (s : Saved) → found_from more t ≡ Open s → choice size Shut more t ≡ Takes One s
beside_zero size more Shut s is = absurd cc
beside_zero size more (Begun h bytes) s is = ap (taken_half One) is
beside_zero size more (Broken offset) s is = absurd cc

-- an open half alone is taken
pub alone_zero : (bytes : List ℕ) (s : Saved) → found bytes ≡ Open s → recovered_as_written (files bytes []) ≡ as_written_from (Takes Zero s)
unfolding recovered_as_written
alone_zero bytes s is = ap as_written_from (beside_one (length bytes) 0 (top bytes) s is)

pub alone_one : (bytes : List ℕ) (s : Saved) → found bytes ≡ Open s → recovered_as_written (files [] bytes) ≡ as_written_from (Takes One s)
unfolding recovered_as_written
alone_one bytes s is = ap as_written_from (beside_zero 0 (length bytes) (top bytes) s is)

-- what is taken is what is recovered
pub recovered_so : (outcome : CrashBytes) (t : Taken) → taken (outcome Zero) (outcome One) ≡ t → recovered_as_written outcome ≡ as_written_from t
unfolding recovered_as_written
recovered_so outcome t is = ap as_written_from is

-- why nothing is taken is why nothing is recovered
pub refused_so : (processors : ℕ) (outcome : CrashBytes) (refusal : Refusal) → is_processor_count processors ≡ true → is_finding_refusal refusal ≡ true → Finds (outcome Zero) (outcome One) (Err refusal) →
    IsAnswer processors outcome (Err refusal)
refused_so processors outcome (refusals.Damaged half offset) good is h = (good, recovered_so outcome _ h)
refused_so processors outcome refusals.NothingHere good is h = (good, recovered_so outcome _ h)
refused_so processors outcome refusals.Memory good is h = (good, tt)
refused_so processors outcome refusals.Device good is h = (good, tt)
refused_so processors outcome _ good is h = absurd cc

-- what is answered where the number of processors is good
answered_or_refused : (processors : ℕ) (outcome : CrashBytes) (refusal : Refusal) → is_processor_count processors ≡ true → is_finding_refusal refusal ≡ true → Comes (recovered_as_written outcome) (Err refusal) →
    IsAnswer processors outcome (Err refusal)
answered_or_refused processors outcome refusals.BadPes good is h = absurd h
answered_or_refused processors outcome _ good is h = (good, h)

pub answered_so : (processors : ℕ) (outcome : CrashBytes) (answer : Result Found Refusal) → is_processor_count processors ≡ true → IfErr answer (λ refusal. is_finding_refusal refusal ≡ true) → Comes (recovered_as_written outcome) answer →
    IsAnswer processors outcome answer
answered_so processors outcome (Ok found) good is h = (good, h)
answered_so processors outcome (Err refusal) good is h = answered_or_refused processors outcome refusal good is h
