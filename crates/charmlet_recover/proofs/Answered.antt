-- What a restart answers is what the files say, and the blanks that are given.
use Rattle.std.proofs.Common.{◌≡◌, ◌≤◌, ◌⊎◌, ⊎_elim, inl, inr, ℕ, ◌-◌, List, refl, sym, ap, subst, ◌∙◌, arith}
use Rattle.std.specs.Prelude.{Option, Some, None, option_map, Result, Ok, Err, true}
use Rattle.charmlet_model.specs.declared.half.Half.{Half}
use Rattle.charmlet_model.specs.declared.half.Half.TheVariants.{Zero, One}
use Rattle.charmlet_model.specs.declared.kind.Kind.{Kind}
use Rattle.charmlet_model.specs.declared.refusal.Refusal.{Refusal}
use Rattle.charmlet_model.specs.declared.refusal.Refusal.TheVariants as refusals
use Rattle.charmlet_model.specs.Core.{Blanks}
use Rattle.charmlet_model.specs.World.{World}
use Rattle.charmlet_record.specs.Lawful.{IsBytes}
use Rattle.charmlet_image.specs.declared.half.HalfView.TheVariants as views
use Rattle.charmlet_image.specs.declared.half.OpenHalf.{OpenHalf}
use Rattle.charmlet_image.specs.Images.{Saved}
use Rattle.charmlet_image.specs.Views.{HalfIs, IsView}
use Rattle.charmlet_image.specs.Halves.{Open, found, Taken, Takes, taken}
use Rattle.charmlet_recovery.specs.Blanks.{least_short}
use Rattle.charmlet_record.specs.declared.reader.Fault.{Fault}
use Rattle.charmlet_record.specs.declared.reader.ReadError.{ReadError}
use Rattle.charmlet_record.specs.declared.reader.ReadError.TheVariants.{Damaged, Memory}
use Rattle.charmlet_recovery.specs.Meanings.{Meaning, Faulty, Whole}
use Rattle.charmlet_recovery.specs.Recovered as files
use Rattle.charmlet_recovery.specs.Recovered.{meaning_of, recovered, recovered_by, recovered_from}
use Rattle.charmlet_recovery.specs.Restarts.{fault_refusal, restart_refusal, short_refusal, taken_refusal, wanted_of}
use Rattle.charmlet_recovery.specs.RestartLaws.{IsEnough, Lacks}
use Rattle.charmlet_recovery.proofs.Restarting.{least_short_is_found, restarts_are_taken}
use Rattle.charmlet_recovery.proofs.Stored.{recovered_is_taken}
use Rattle.charmlet_halves.specs.Found.{Finds}
use Rattle.charmlet_replay.specs.Replayed.{IsFaultAt, IsOpenIn}
use Rattle.charmlet_recover.specs.Restart.{AnswersBy, FaultIs, IsShortOfSome, is_half_refusal}
use Rattle.charmlet_halves.specs.Answers.{is_finding_refusal}

-- ---- causes

-- a refusal for its cause is an answer
pub answers_so : (X : Type 0) (why : Option Refusal) (refusal : Refusal) → why ≡ Some refusal → AnswersBy {X = X} why (Err refusal)
answers_so X why refusals.Memory e = tt
answers_so X why refusals.Device e = tt
answers_so X why _ e = e

-- what is lacking, as a refusal
abbrev pub lack_refusal : Option (Kind × ℕ) → Option Refusal
lack_refusal = option_map (λ lack. refusals.BlanksWanted lack.0 lack.1)

short_alone : (lack : Option (Kind × ℕ)) → lack_refusal lack ≡ short_refusal lack None
short_alone None = refl
short_alone (Some lack) = refl

-- where nothing lacks there are enough blanks of each kind
pub enough_blanks : (given wanted : Blanks) → least_short given wanted ≡ None → IsEnough given wanted
enough_blanks given wanted none = subst (Lacks given wanted) none (least_short_is_found given wanted)

-- an answer has its cause, or memory is refused or the device fails
abbrev pub HasCause : Option Refusal → Refusal → Type 0
HasCause why refusal = (refusal ≡ refusals.Memory) ⊎ ((refusal ≡ refusals.Device) ⊎ (why ≡ Some refusal))

pub has_cause : (X : Type 0) (why : Option Refusal) (refusal : Refusal) → AnswersBy {X = X} why (Err refusal) → HasCause why refusal
has_cause X why refusals.Memory e = inl refl
has_cause X why refusals.Device e = inr (inl refl)
has_cause X why _ e = inr (inr e)

-- whatever would have been answered in its place
pub answers_as : (X Y : Type 0) (why : Option Refusal) (refusal : Refusal) → AnswersBy {X = X} why (Err refusal) → AnswersBy {X = Y} why (Err refusal)
answers_as X Y why refusals.Memory e = tt
answers_as X Y why refusals.Device e = tt
answers_as X Y why _ e = e

-- ---- answers of halves

-- why a restart is refused, by what is taken
pub refusal_taken : (given : Blanks) (outcome : Half → List ℕ) (t : Taken) → taken (outcome Zero) (outcome One) ≡ t → restart_refusal given outcome ≡ taken_refusal given t
refusal_taken given outcome t is = restarts_are_taken given outcome ∙ ap (taken_refusal given) is

-- where no half is taken, the restart is refused as the halves are
pub unfound_answers : (X : Type 0) (given : Blanks) (outcome : Half → List ℕ) (refusal : Refusal) → Finds (outcome Zero) (outcome One) (Err refusal) → AnswersBy {X = X} (restart_refusal given outcome) (Err refusal)
unfound_answers X given outcome refusals.Memory finds = tt
unfound_answers X given outcome refusals.Device finds = tt
unfound_answers X given outcome (refusals.Damaged half offset) finds = refusal_taken given outcome _ finds
unfound_answers X given outcome refusals.NothingHere finds = refusal_taken given outcome _ finds
unfound_answers X given outcome _ finds = absurd finds

-- where one is taken, the restart is refused as that half is
pub taken_answers : {X : Type 0} (given : Blanks) (outcome : Half → List ℕ) (half : Half) (s : Saved) → taken (outcome Zero) (outcome One) ≡ Takes half s → (answer : Result X Refusal) →
    AnswersBy (taken_refusal given (Takes half s)) answer → AnswersBy (restart_refusal given outcome) answer
taken_answers {X} given outcome half s is answer so = subst (λ (why : Option Refusal). AnswersBy {X = X} why answer) (sym (refusal_taken given outcome (Takes half s) is)) so

-- ---- answers of a half

-- what its bytes say, code's value of it says
pub open_is : (bytes : List ℕ) (s : Saved) (half : OpenHalf) → HalfIs bytes (views.Open half) → IsBytes bytes → found bytes ≡ Open s → IsOpenIn bytes s half
open_is bytes s half its bytes_are is =
    let same : its.0 ≡ s = (let both : Open its.0 ≡ Open s = sym its.1 ∙ is in cc) in
    record { bytes_are = bytes_are; opened = is; view = subst (λ (t : Saved). IsView bytes t half) same its.2 }

no_short : (lack : Option (Kind × ℕ)) → short_refusal lack None ≡ None → lack ≡ None
no_short None e = refl
no_short (Some lack) e = absurd cc

short_first : (lack : Option (Kind × ℕ)) (refusal : Refusal) (later : Option Refusal) → short_refusal lack None ≡ Some refusal → short_refusal lack later ≡ Some refusal
short_first None refusal later e = absurd cc
short_first (Some lack) refusal later e = e

-- what was counted is what is wanted, and so is what lacks of it
pub same_lack : (given needed wanted : Blanks) → ((kind : Kind) → needed kind ≡ wanted kind) → lack_refusal (least_short given needed) ≡ short_refusal (least_short given wanted) None
same_lack given needed wanted same = short_alone (least_short given needed) ∙ ap (λ (counted : Blanks). short_refusal (least_short given counted) None) (λ i kind. same kind i)

none_lacks : (given needed : Blanks) → IsEnough given needed → (lack : Option (Kind × ℕ)) → Lacks given needed lack → lack ≡ None
none_lacks given needed enough None h = refl
none_lacks given needed enough (Some lack) h = absurd (let short = h.short in let all = enough lack.0 in let no : ⊥ = omega (arith, short, all) in no)

-- where there are enough blanks and no record is at fault
pub whole_answers : {X : Type 0} (given : Blanks) (half : Half) (s : Saved) → IsEnough given (wanted_of s) → (w : World) (count : ℕ) (back : X) → meaning_of s ≡ Whole w count → AnswersBy (taken_refusal given (Takes half s)) (Ok back)
whole_answers given half s enough w count back means =
    ap (λ (lack : Option (Kind × ℕ)). short_refusal lack (fault_refusal half s (meaning_of s))) (none_lacks given (wanted_of s) enough (least_short given (wanted_of s)) (least_short_is_found given (wanted_of s)))
    ∙ ap (fault_refusal half s) means

module _ (given : Blanks) (half : Half) (s : Saved) where
  -- where blanks lack, or memory is refused before they are counted
  pub lack_answers : (X Y : Type 0) (refusal : Refusal) → AnswersBy {X = X} (short_refusal (least_short given (wanted_of s)) None) (Err refusal) → AnswersBy {X = Y} (taken_refusal given (Takes half s)) (Err refusal)
  lack_answers X Y refusal so =
      let why = taken_refusal given (Takes half s) in
      ⊎_elim (λ memory. subst (λ (r : Refusal). AnswersBy {X = Y} why (Err r)) (sym memory) tt)
      (⊎_elim (λ device. subst (λ (r : Refusal). AnswersBy {X = Y} why (Err r)) (sym device) tt)
      (λ lacks. answers_so Y why refusal (short_first (least_short given (wanted_of s)) refusal (fault_refusal half s (meaning_of s)) lacks)))
      (has_cause X (short_refusal (least_short given (wanted_of s)) None) refusal so)

  module _ (enough : short_refusal (least_short given (wanted_of s)) None ≡ None) where
    -- there are enough for the half
    pub enough_for_half : (kind : Kind) → wanted_of s kind ≤ given kind
    enough_for_half = enough_blanks given (wanted_of s) (no_short (least_short given (wanted_of s)) enough)

    -- it is refused for a fault of a record alone
    by_records : taken_refusal given (Takes half s) ≡ fault_refusal half s (meaning_of s)
    by_records = ap (λ (lack : Option (Kind × ℕ)). short_refusal lack (fault_refusal half s (meaning_of s))) (no_short (least_short given (wanted_of s)) enough)

    -- where a record has one, or memory is refused
    pub fault_answers : (X : Type 0) (size : ℕ) (why : ReadError) (refusal : Refusal) → FaultIs half size why refusal → ((fault : Fault) → why ≡ Damaged fault → IsFaultAt s (size - fault.bytes_left)) →
        AnswersBy {X = X} (taken_refusal given (Takes half s)) (Err refusal)
    fault_answers X size Memory refusal is at = subst (λ (r : Refusal). AnswersBy {X = X} (taken_refusal given (Takes half s)) (Err r)) (sym is) tt
    fault_answers X size (Damaged fault) refusal is at =
        let there = at fault refl in
        subst (λ (r : Refusal). AnswersBy {X = X} (taken_refusal given (Takes half s)) (Err r)) (sym is)
        (by_records ∙ ap (fault_refusal half s) there.1 ∙ ap (λ (n : ℕ). Some (refusals.Damaged half n)) (sym there.2))

    -- where none has
    pub done_answers : {X : Type 0} (w : World) (count : ℕ) (back : X) → meaning_of s ≡ Whole w count → AnswersBy {X = X} (taken_refusal given (Takes half s)) (Ok back)
    done_answers w count back means = by_records ∙ ap (fault_refusal half s) means

-- what comes back is what the files recover to
pub taken_is_recovered : (outcome : Half → List ℕ) (half : Half) (s : Saved) (w : World) (count : ℕ) → taken (outcome Zero) (outcome One) ≡ Takes half s → meaning_of s ≡ Whole w count →
    recovered outcome ≡ files.Found w count s.header.generation
taken_is_recovered outcome half s w count is means = recovered_is_taken outcome ∙ ap recovered_from is ∙ ap (recovered_by half s) means

-- ---- on any disk

-- where the bytes of a half are refused for blanks, these are short of what the half needs
short_by : (given : Blanks) (half : Half) (bytes : List ℕ) (s : Saved) (m : Meaning) (lack : Option (Kind × ℕ)) (kind : Kind) (count : ℕ) → found bytes ≡ Open s → least_short given (wanted_of s) ≡ lack →
    short_refusal lack (fault_refusal half s m) ≡ Some (refusals.BlanksWanted kind count) → IsShortOfSome given (refusals.BlanksWanted kind count)
short_by given half bytes s (Faulty place) None kind count is e so = absurd cc
short_by given half bytes s (Whole w n) None kind count is e so = absurd cc
short_by given half bytes s m (Some lack) kind count is e so =
    let one : lack.0 ≡ kind = cc in let two : lack.1 ≡ count = cc in
    (bytes, s, is, e ∙ (λ i. Some (one i, two i)))

pub half_is_short : (X : Type 0) (given : Blanks) (half : Half) (bytes : List ℕ) (s : Saved) (refusal : Refusal) → found bytes ≡ Open s → AnswersBy {X = X} (taken_refusal given (Takes half s)) (Err refusal) →
    IsShortOfSome given refusal
half_is_short X given half bytes s (refusals.BlanksWanted kind count) is so = short_by given half bytes s (meaning_of s) (least_short given (wanted_of s)) kind count is refl so
half_is_short X given half bytes s _ is so = tt

-- it is refused for blanks alone
pub lack_is_of_half : (lack : Option (Kind × ℕ)) (refusal : Refusal) → lack_refusal lack ≡ Some refusal → is_half_refusal refusal ≡ true
lack_is_of_half None refusal e = absurd cc
lack_is_of_half (Some lack) refusal e = let same : refusals.BlanksWanted lack.0 lack.1 ≡ refusal = cc in ap is_half_refusal (sym same)

-- where no half was found, none is short
pub none_is_short : (given : Blanks) (refusal : Refusal) → is_finding_refusal refusal ≡ true → IsShortOfSome given refusal
none_is_short given (refusals.BlanksWanted kind count) e = absurd cc
none_is_short given _ e = tt
