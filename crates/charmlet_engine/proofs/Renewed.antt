-- Stores that go on as they opened, or in an image of themselves.
use Rattle.std.proofs.Common.{◌≡◌, ◌⊎◌, inl, inr, ℕ, ◌+◌, Bool, true, false, Option, Some, None, Result, Ok, Err, refl, sym, ap, subst, ◌∙◌, if◌then◌else◌}
use Rattle.charmlet_model.specs.declared.refusal.Refusal.{Refusal}
use Rattle.charmlet_model.specs.declared.refusal.Refusal.TheVariants as refusals
use Rattle.charmlet_model.specs.Core.{Blanks, Checkpoint, Core, Refuses, Stepped, Steps, next_core, present, stepped_unless}
use Rattle.charmlet_model.specs.Sound.{opened}
use Rattle.charmlet_model.specs.World.{World, world}
use Rattle.charmlet_recovery.specs.Restarts.{image_end, limit_refusal}
use Rattle.charmlet_recovery.proofs.Restarting.{limits_are_full}
use Rattle.charmlet_halves.specs.Answers.{is_no_failure}
use Rattle.charmlet_history.specs.Kept.{counts_or_refused}
use Rattle.charmlet_recover.specs.Restart.{AnswersBy}
use Rattle.charmlet_recover.proofs.Answered.{answers_so, has_cause}
use Rattle.charmlet_engine.specs.Restarted.{IsOpenedOn, going_refusal, gone_on}

-- ---- answers, whatever would have been answered in their place

pub refused_alike : (X Y : Type 0) (why : Option Refusal) (refusal : Refusal) → AnswersBy {X = X} why (Err refusal) → AnswersBy {X = Y} why (Err refusal)
refused_alike X Y why refusals.Memory so = so
refused_alike X Y why refusals.Device so = so
refused_alike X Y why _ so = so

pub failed_alike : (X Y : Type 0) (refusal : Refusal) → is_no_failure {X = X} (Err refusal) ≡ is_no_failure {X = Y} (Err refusal)
failed_alike X Y refusals.Device = refl
failed_alike X Y _ = refl

-- ---- why an image is refused

-- a checkpoint is answered by the first cause that there is, if there is one
by_cause : (core : Core) (blanks : Blanks) (why : Option Refusal) (result : Result ℕ Refusal) → counts_or_refused result ≡ (stepped_unless core blanks Checkpoint why).answer → AnswersBy {X = ℕ} why result
by_cause core blanks None (Ok n) same = refl
by_cause core blanks None (Err refusal) same = absurd cc
by_cause core blanks (Some refusal) (Ok n) same = absurd cc
by_cause core blanks (Some refusal) (Err other) same = answers_so ℕ (Some refusal) other (let is : refusal ≡ other = cc in ap (λ (r : Refusal). Some r) is)

-- or by memory or the device
by_refusal : (why : Option Refusal) (refusal : Refusal) → AnswersBy {X = ℕ} why (Err refusal) → (result : Result ℕ Refusal) → counts_or_refused result ≡ Refuses refusal → AnswersBy {X = ℕ} why result
by_refusal why refusal so (Ok n) same = absurd cc
by_refusal why refusal so (Err other) same =
    let is : refusal ≡ other = cc in
    subst (λ (r : Refusal). AnswersBy {X = ℕ} why (Err r)) is so

-- of a store that just opened these are the limits of its image
opened_answers : (processors : ℕ) (w : World) (before generation log_end : ℕ) (blanks : Blanks) (next : Core) (result : Result ℕ Refusal) →
    Steps (opened processors w before generation log_end) blanks Checkpoint (record { answer = counts_or_refused result; core = next; blanks = blanks }) → AnswersBy {X = ℕ} (limit_refusal generation w) result
opened_answers processors w before generation log_end blanks next result s = elim s.1 [
  | inl same ↦ by_cause (opened processors w before generation log_end) blanks (limit_refusal generation w) result (ap (λ (n : Stepped). n.answer) same)
  | inr lacking ↦ elim lacking [
    | inl memory ↦ by_refusal (limit_refusal generation w) refusals.Memory tt result (ap (λ (n : Stepped). n.answer) memory.1)
    | inr device ↦ by_refusal (limit_refusal generation w) refusals.Device tt result (ap (λ (n : Stepped). n.answer) device.1)
  ]
]

module _ (processors : ℕ) (core : Core) (opens : IsOpenedOn processors core) where
  -- its present world is the one with which it opened
  pub opened_present : present core ≡ core.opening
  opened_present = ap (λ (k : Core). world core.opening k.history) opens

  pub image_answers : (blanks : Blanks) (next : Core) (result : Result ℕ Refusal) →
      Steps core blanks Checkpoint (record { answer = counts_or_refused result; core = next; blanks = blanks }) → AnswersBy {X = ℕ} (going_refusal false core) result
  image_answers blanks next result s =
      subst (λ (v : World). AnswersBy {X = ℕ} (limit_refusal core.generation v) result) (sym opened_present)
      (opened_answers processors core.opening core.before core.generation core.log_end blanks next result
      (subst (λ (k : Core). Steps k blanks Checkpoint (record { answer = counts_or_refused result; core = next; blanks = blanks })) opens s))

  -- ---- the core that goes on

  pub gone_opened : (is_current : Bool) → gone_on is_current core
      ≡ opened processors core.opening core.before (if is_current then core.generation else core.generation + 1) (if is_current then core.log_end else image_end core.opening)
  gone_opened true = opens
  gone_opened false = ap (λ (k : Core). next_core k Checkpoint) opens

  pub going_is : (is_current : Bool) → going_refusal is_current core ≡ (if is_current then None else limit_refusal core.generation core.opening)
  going_is true = refl
  going_is false = ap (limit_refusal core.generation) opened_present

-- a store that opened so is open on these processors
pub opened_is : (processors : ℕ) (w : World) (before generation log_end : ℕ) (core : Core) → core ≡ opened processors w before generation log_end → IsOpenedOn processors core
opened_is processors w before generation log_end core is = is ∙ sym (λ i. opened processors (is i).opening (is i).before (is i).generation (is i).log_end)

-- ---- refusals of what goes on

-- an image is refused only where one is wanted, and since it is full
pub going_is_full : (is_current : Bool) (core : Core) (refusal : Refusal) → going_refusal is_current core ≡ Some refusal → (is_current ≡ false) × (refusal ≡ refusals.ImageFull)
going_is_full true core refusal e = absurd cc
going_is_full false core refusal e = (refl, limits_are_full core.generation (present core) refusal e)

-- memory, the device, or a full image
abbrev pub IsGoingRefusal : Bool → Core → Refusal → Type 0
IsGoingRefusal is_current core refusal = (refusal ≡ refusals.Memory) ⊎ ((refusal ≡ refusals.Device) ⊎ ((refusal ≡ refusals.ImageFull) × (is_current ≡ false)))

pub going_refused : (X : Type 0) (is_current : Bool) (core : Core) (refusal : Refusal) → AnswersBy {X = X} (going_refusal is_current core) (Err refusal) → IsGoingRefusal is_current core refusal
going_refused X is_current core refusal so = elim (has_cause X (going_refusal is_current core) refusal so) [
  | inl memory ↦ inl memory
  | inr more ↦ elim more [
    | inl device ↦ inr (inl device)
    | inr why ↦ (let full = going_is_full is_current core refusal why in inr (inr (full.1, full.0)))
  ]
]
