-- Why restarts are refused.
use Rattle.std.proofs.Common.{◌≡◌, ℕ, ◌≤◌, ◌<◌, ◌^◌, Bool, true, false, cond, List, refl, sym, ap, subst, ◌∙◌, arith, if◌then◌else◌, nat_le}
use Rattle.std.specs.Prelude.{nat_lt, Option, Some, None, option_map}
use Rattle.std.proofs.lemmas.Bool.{ltb-true, ltb-false}
use Rattle.charmlet_model.specs.declared.half.Half.{Half}
use Rattle.charmlet_model.specs.declared.half.Half.TheVariants.{Zero, One}
use Rattle.charmlet_model.specs.declared.kind.Kind.{Kind}
use Rattle.charmlet_model.specs.declared.kind.Kind.TheVariants.{Counter, Ring, Account, Sum, Tree, Tape}
use Rattle.charmlet_model.specs.declared.refusal.Refusal.{Refusal}
use Rattle.charmlet_model.specs.declared.refusal.Refusal.TheVariants as refusals
use Rattle.charmlet_model.specs.Kind.{kind_number}
use Rattle.charmlet_model.specs.Core.{Blanks}
use Rattle.charmlet_model.specs.World.{World}
use Rattle.charmlet_image.specs.Images.{Saved}
use Rattle.charmlet_image.specs.Halves.{Taken, NothingHere, Takes, DamagedAt, taken}
use Rattle.charmlet_recovery.specs.Meanings.{Meaning, Faulty, Whole}
use Rattle.charmlet_recovery.specs.Recovered.{Found, recovered, recovered_by, recovered_from, meaning_of}
use Rattle.charmlet_recovery.specs.Blanks.{short_of, least_short}
use Rattle.charmlet_recovery.specs.Restarts.{wanted_of, fault_refusal, short_refusal, taken_refusal, restart_refusal, either_refusal, engine_refusal, image_end, is_old, limit_refusal, taken_image_refusal, wants_image}
use Rattle.charmlet_recovery.specs.RestartLaws.{IsEnough, Lacks, LeastShortIsFound, RestartsAreTaken, IsRefused, RestartsAreRefusedForCause, FoundLacksBlanksAlone}
use Rattle.charmlet_recovery.proofs.Stored.{recovered_is_taken}

-- ---- the least kind that is short

one-kind : (given needed : Blanks) (kind : Kind) (later : Option (Kind × ℕ)) →
    ((lesser : Kind) → kind_number lesser < kind_number kind → needed lesser ≤ given lesser) →
    (needed kind ≤ given kind → Lacks given needed later) → Lacks given needed (short_of given needed kind later)
one-kind given needed kind later least go =
    elim (nat_lt (given kind) (needed kind)) as (λ b. nat_lt (given kind) (needed kind) ≡ b → Lacks given needed (cond b (Some (kind, needed kind)) later)) [
      | true ↦ λ short. record { short = ltb-true (given kind) (needed kind) short; all = refl; least = least }
      | false ↦ λ enough. go (ltb-false (given kind) (needed kind) enough)
    ] refl

pub least_short_is_found : LeastShortIsFound
least_short_is_found given needed =
    one-kind given needed Counter _ (below-1) (λ one.
    one-kind given needed Ring _ (below-2 one) (λ two.
    one-kind given needed Account _ (below-3 one two) (λ three.
    one-kind given needed Sum _ (below-4 one two three) (λ four.
    one-kind given needed Tree _ (below-5 one two three four) (λ five.
    one-kind given needed Tape _ (below-6 one two three four five) (λ six. each one two three four five six))))))
  where
    Has : Kind → Type 0
    Has kind = needed kind ≤ given kind

    below-1 : (lesser : Kind) → kind_number lesser < 1 → Has lesser
    below-1 Counter h = absurd (omega (arith, h))
    below-1 Ring h = absurd (omega (arith, h))
    below-1 Account h = absurd (omega (arith, h))
    below-1 Sum h = absurd (omega (arith, h))
    below-1 Tree h = absurd (omega (arith, h))
    below-1 Tape h = absurd (omega (arith, h))

    below-2 : Has Counter → (lesser : Kind) → kind_number lesser < 2 → Has lesser
    below-2 one Counter h = one
    below-2 one Ring h = absurd (omega (arith, h))
    below-2 one Account h = absurd (omega (arith, h))
    below-2 one Sum h = absurd (omega (arith, h))
    below-2 one Tree h = absurd (omega (arith, h))
    below-2 one Tape h = absurd (omega (arith, h))

    below-3 : Has Counter → Has Ring → (lesser : Kind) → kind_number lesser < 3 → Has lesser
    below-3 one two Counter h = one
    below-3 one two Ring h = two
    below-3 one two Account h = absurd (omega (arith, h))
    below-3 one two Sum h = absurd (omega (arith, h))
    below-3 one two Tree h = absurd (omega (arith, h))
    below-3 one two Tape h = absurd (omega (arith, h))

    below-4 : Has Counter → Has Ring → Has Account → (lesser : Kind) → kind_number lesser < 4 → Has lesser
    below-4 one two three Counter h = one
    below-4 one two three Ring h = two
    below-4 one two three Account h = three
    below-4 one two three Sum h = absurd (omega (arith, h))
    below-4 one two three Tree h = absurd (omega (arith, h))
    below-4 one two three Tape h = absurd (omega (arith, h))

    below-5 : Has Counter → Has Ring → Has Account → Has Sum → (lesser : Kind) → kind_number lesser < 5 → Has lesser
    below-5 one two three four Counter h = one
    below-5 one two three four Ring h = two
    below-5 one two three four Account h = three
    below-5 one two three four Sum h = four
    below-5 one two three four Tree h = absurd (omega (arith, h))
    below-5 one two three four Tape h = absurd (omega (arith, h))

    below-6 : Has Counter → Has Ring → Has Account → Has Sum → Has Tree → (lesser : Kind) → kind_number lesser < 6 → Has lesser
    below-6 one two three four five Counter h = one
    below-6 one two three four five Ring h = two
    below-6 one two three four five Account h = three
    below-6 one two three four five Sum h = four
    below-6 one two three four five Tree h = five
    below-6 one two three four five Tape h = absurd (omega (arith, h))

    each : Has Counter → Has Ring → Has Account → Has Sum → Has Tree → Has Tape → (kind : Kind) → Has kind
    each one two three four five six Counter = one
    each one two three four five six Ring = two
    each one two three four five six Account = three
    each one two three four five six Sum = four
    each one two three four five six Tree = five
    each one two three four five six Tape = six

-- ---- refusals

pub restarts_are_taken : RestartsAreTaken
unfolding restart_refusal
restarts_are_taken given outcome = refl

module _ (given : Blanks) (outcome : Half → List ℕ) where
  -- a half whose blanks suffice
  by-meaning : (half : Half) (s : Saved) (m : Meaning) → taken (outcome Zero) (outcome One) ≡ Takes half s → recovered outcome ≡ recovered_by half s m → IsEnough given (wanted_of s) →
      IsRefused given outcome (fault_refusal half s m)
  by-meaning half s (Faulty place) is e enough = e
  by-meaning half s (Whole w count) is e enough = record { half = half; saved = s; is_taken = is; enough = enough; world = w; count = count; is_found = e }

  by-lack : (half : Half) (s : Saved) (lack : Option (Kind × ℕ)) → taken (outcome Zero) (outcome One) ≡ Takes half s → recovered outcome ≡ recovered_by half s (meaning_of s) →
      Lacks given (wanted_of s) lack → IsRefused given outcome (short_refusal lack (fault_refusal half s (meaning_of s)))
  by-lack half s None is e enough = by-meaning half s (meaning_of s) is e enough
  by-lack half s (Some lack) is e short = (half, s, is, short)

  by-taken : (t : Taken) → taken (outcome Zero) (outcome One) ≡ t → recovered outcome ≡ recovered_from t → IsRefused given outcome (taken_refusal given t)
  by-taken NothingHere is e = (refl, e)
  by-taken (DamagedAt half offset) is e = e
  by-taken (Takes half s) is e = by-lack half s (least_short given (wanted_of s)) is e (least_short_is_found given (wanted_of s))

pub restarts_are_refused_for_cause : RestartsAreRefusedForCause
restarts_are_refused_for_cause given outcome =
    subst (IsRefused given outcome) (sym (restarts_are_taken given outcome))
    (by-taken given outcome (taken (outcome Zero) (outcome One)) refl (recovered_is_taken outcome))

-- ---- a world that is found

no-fault : (half : Half) (s : Saved) (m : Meaning) (w : World) (count generation : ℕ) → recovered_by half s m ≡ Found w count generation → fault_refusal half s m ≡ None
no-fault half s (Faulty place) w count generation e = absurd cc
no-fault half s (Whole v n) w count generation e = refl

short-alone : (lack : Option (Kind × ℕ)) → short_refusal lack None ≡ option_map (λ l. refusals.BlanksWanted l.0 l.1) lack
short-alone None = refl
short-alone (Some lack) = refl

pub found_lacks_blanks_alone : FoundLacksBlanksAlone
found_lacks_blanks_alone given outcome w count generation half s e is =
    let said : recovered_by half s (meaning_of s) ≡ Found w count generation = ap recovered_from (sym is) ∙ sym (recovered_is_taken outcome) ∙ e in
    let lack : Option (Kind × ℕ) = least_short given (wanted_of s) in
    restarts_are_taken given outcome ∙ ap (taken_refusal given) is
    ∙ ap (short_refusal lack) (no-fault half s (meaning_of s) w count generation said)
    ∙ short-alone lack

-- ---- images that a restart writes

-- whether one is wanted is known from what is taken of the two halves
pub images_are_wanted : (outcome : Half → List ℕ) → wants_image outcome ≡ is_old (taken (outcome Zero) (outcome One))
unfolding wants_image
images_are_wanted outcome = refl

-- and so is why a restart that writes one is refused
pub engine_refusals_are_taken : (given : Blanks) (outcome : Half → List ℕ) →
    engine_refusal given outcome ≡ either_refusal (restart_refusal given outcome) (taken_image_refusal (taken (outcome Zero) (outcome One)))
unfolding engine_refusal
engine_refusals_are_taken given outcome = refl

-- an image of a world can't be written for one reason alone
pub limits_are_full : (generation : ℕ) (w : World) (refusal : Refusal) → limit_refusal generation w ≡ Some refusal → refusal ≡ refusals.ImageFull
limits_are_full generation w refusal e = by (nat_le (2 ^ 40) generation) (nat_le (2 ^ 31) (image_end w)) e
  where
    by : (past long : Bool) → (if past then Some refusals.ImageFull else (if long then Some refusals.ImageFull else None)) ≡ Some refusal → refusal ≡ refusals.ImageFull
    by true long e = cc
    by false true e = cc
    by false false e = absurd cc

either-first : (first later : Option Refusal) (refusal : Refusal) → first ≡ Some refusal → either_refusal first later ≡ Some refusal
either-first None later refusal e = absurd cc
either-first (Some other) later refusal e = e

-- what refuses the one refuses the other
pub engine_is_refused_as_restart : (given : Blanks) (outcome : Half → List ℕ) (refusal : Refusal) → restart_refusal given outcome ≡ Some refusal → engine_refusal given outcome ≡ Some refusal
engine_is_refused_as_restart given outcome refusal e =
    engine_refusals_are_taken given outcome ∙ either-first (restart_refusal given outcome) (taken_image_refusal (taken (outcome Zero) (outcome One))) refusal e
