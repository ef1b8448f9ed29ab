-- Restarts that aren't bad.
use Rattle.std.proofs.Common.{◌≡◌, inl, inr, ℕ, ◌+◌, ◌^◌, nat_le, arith, Bool, true, false, if◌then◌else◌, List, [], Option, Some, None, Result, Ok, Err, length, take, refl, sym, ap, subst, ◌∙◌}
use Rattle.std.specs.Prelude.{◌↔◌, IfOk, unwrap_or}
use Rattle.std.specs.Result.{result_err}
use Rattle.charmlet_model.specs.declared.event.Event.{Event}
use Rattle.charmlet_model.specs.declared.half.Half.{Half}
use Rattle.charmlet_model.specs.declared.half.Half.TheVariants.{Zero, One}
use Rattle.charmlet_model.specs.declared.kind.Kind.{Kind}
use Rattle.charmlet_model.specs.declared.refusal.Refusal.{Refusal}
use Rattle.charmlet_model.specs.declared.refusal.Refusal.TheVariants as refusals
use Rattle.charmlet_model.specs.Core.{Blanks, Core}
use Rattle.charmlet_model.specs.Sound.{new_world}
use Rattle.charmlet_model.specs.World.{World, world}
use Rattle.charmlet_record.specs.Reading.{Kinds}
use Rattle.charmlet_recovery.specs.Outcomes.{IsLawful}
use Rattle.charmlet_image.specs.Halves.{Taken, NothingHere, Takes, DamagedAt, taken}
use Rattle.charmlet_image.specs.Images.{Saved}
use Rattle.charmlet_recovery.specs.Blanks.{least_short}
use Rattle.charmlet_recovery.specs.Meanings.{Meaning, Faulty, Whole}
use Rattle.charmlet_recovery.specs.Recovered.{Found, Nothing, is_current, meaning_of, recovered, recovered_from}
use Rattle.charmlet_recovery.specs.Restarts.{either_refusal, engine_refusal, fault_refusal, image_end, image_refusal, restart_refusal, short_refusal, taken_image_refusal, taken_refusal, wanted_of}
use Rattle.charmlet_recovery.proofs.Restarting.{restarts_are_taken}
use Rattle.charmlet_recovery.proofs.Stored.{recovered_is_taken}
use Rattle.charmlet_locate.specs.Locations.{is_processor_count}
use Rattle.charmlet_stock.specs.declared.stock.Stock.{Stock}
use Rattle.charmlet_chare.specs.declared.chare.Chare as chares
use Rattle.charmlet_disk.specs.File.{CrashBytes}
use Rattle.charmlet_engine.specs.restarted.NotRestarted.{NotRestarted}
use Rattle.charmlet_engine.specs.Restart.{AnswersBy}
use Rattle.charmlet_engine.specs.Engine.{EngineShown, core_of}
use Rattle.charmlet_engine.specs.Restarted.{IsFound, IsHandedBack, IsOpenedOn, core_or_refusal}
use Rattle.charmlet_lab.specs.Judged.{HasFirst, IsGood, IsGoodUnless, IsNothingOrLawful, count_of}

-- a store in which nothing has happened since it opened, and which has the first events of a run,
-- was recovered from lawful files
opened_is_lawful : (kinds : Kinds) (events : List Event) (n processors : ℕ) (core : Core) (outcome : CrashBytes) → IsOpenedOn processors core → IsFound outcome core → HasFirst kinds events n core →
    IsLawful (new_world kinds) 0 events n outcome
opened_is_lawful kinds events n processors core outcome opens found has =
    let none : core.history ≡ [] = ap (λ (k : Core). k.history) opens in
    let count : count_of core ≡ core.before = omega (arith, ap (length {A = Event}) none) in
    let same : core.opening ≡ world (new_world kinds) (take core.before events) =
    sym (ap (world core.opening) none) ∙ has.is ∙ ap (λ (k : ℕ). world (new_world kinds) (take k events)) count in
    let plus : core.before ≡ 0 + core.before = omega arith in
    record {
      kept = core.before;
      durable_kept = (let few = has.no_fewer in omega (arith, count));
      none_invented = (let most = has.no_more in omega (arith, count));
      generation = found.generation;
      is = found.is ∙ ap (λ (w : World). Found w core.before found.generation) same ∙ ap (λ (k : ℕ). Found (world (new_world kinds) (take core.before events)) k found.generation) plus;
    }

-- and one that was recovered from lawful files has the first events of the run
lawful_has_first : (kinds : Kinds) (events : List Event) (n processors : ℕ) (core : Core) (outcome : CrashBytes) → IsOpenedOn processors core → IsFound outcome core → IsLawful (new_world kinds) 0 events n outcome →
    HasFirst kinds events n core
lawful_has_first kinds events n processors core outcome opens found lawful =
    let none : core.history ≡ [] = ap (λ (k : Core). k.history) opens in
    let count : count_of core ≡ core.before = omega (arith, ap (length {A = Event}) none) in
    let same : Found (world (new_world kinds) (take lawful.kept events)) (0 + lawful.kept) lawful.generation ≡ Found core.opening core.before found.generation = sym lawful.is ∙ found.is in
    let opening : core.opening ≡ world (new_world kinds) (take lawful.kept events) = cc in
    let before : 0 + lawful.kept ≡ core.before = cc in
    let kept : lawful.kept ≡ count_of core = omega (arith, before, count) in
    record {
      no_fewer = (let few = lawful.durable_kept in omega (arith, kept));
      no_more = (let most = lawful.none_invented in omega (arith, kept));
      is = ap (world core.opening) none ∙ opening ∙ ap (λ (k : ℕ). world (new_world kinds) (take k events)) kept;
    }

-- so whether what came back is good is known by the files alone
pub good_by_files : (kinds : Kinds) (events : List Event) (durable : Option ℕ) (processors : ℕ) (outcome : CrashBytes) (why : Option Refusal) (back : Result Core Refusal) →
    IfOk back (IsOpenedOn processors) → IfOk back (IsFound outcome) → result_err back ≡ why → IsGood kinds events durable back ↔ IsGoodUnless kinds events durable outcome why
good_by_files kinds events durable processors outcome why (Ok core) opens found cause =
    let n = unwrap_or durable 0 in (
      λ has. subst (IsGoodUnless kinds events durable outcome) cause (opened_is_lawful kinds events n processors core outcome opens found has),
      λ good. lawful_has_first kinds events n processors core outcome opens found (subst (IsGoodUnless kinds events durable outcome) (sym cause) good),
    )
good_by_files kinds events durable processors outcome why (Err refusal) opens found cause = (
  λ good. subst (IsGoodUnless kinds events durable outcome) cause good,
  λ good. subst (IsGoodUnless kinds events durable outcome) (sym cause) good,
)

-- ---- where nothing is here

-- an image that can't be written is full
full_image : (current past long : Bool) → (if current then None else (if past then Some refusals.ImageFull else (if long then Some refusals.ImageFull else None))) ≡ Some refusals.NothingHere → ⊥
full_image true past long e = cc
full_image false true long e = cc
full_image false false true e = cc
full_image false false false e = cc

other_than_nothing : (lack : Option (Kind × ℕ)) (half : Half) (s : Saved) (m : Meaning) → either_refusal (short_refusal lack (fault_refusal half s m)) (image_refusal s m) ≡ Some refusals.NothingHere → ⊥
other_than_nothing (Some lack) half s m e = cc
other_than_nothing None half s (Faulty place) e = cc
other_than_nothing None half s (Whole w count) e = full_image (is_current s) (nat_le (2 ^ 40) s.header.generation) (nat_le (2 ^ 31) (image_end w)) e

nothing_taken : (given : Blanks) (t : Taken) → either_refusal (taken_refusal given t) (taken_image_refusal t) ≡ Some refusals.NothingHere → recovered_from t ≡ Nothing
nothing_taken given NothingHere e = refl
nothing_taken given (DamagedAt half offset) e = absurd cc
nothing_taken given (Takes half s) e = absurd (other_than_nothing (least_short given (wanted_of s)) half s (meaning_of s) e)

-- why a restart is refused that writes an image is known from what is taken of the two halves
engine_refusals_are_taken : (given : Blanks) (outcome : CrashBytes) → engine_refusal given outcome ≡ either_refusal (restart_refusal given outcome) (taken_image_refusal (taken (outcome Zero) (outcome One)))
unfolding engine_refusal
engine_refusals_are_taken given outcome = refl

-- files from which a restart is refused as those of no store recover to nothing
nothing_is_here : (given : Blanks) (outcome : CrashBytes) → engine_refusal given outcome ≡ Some refusals.NothingHere → recovered outcome ≡ Nothing
nothing_is_here given outcome e =
    let t = taken (outcome Zero) (outcome One) in
    recovered_is_taken outcome
    ∙ nothing_taken given t (ap (λ (why : Option Refusal). either_refusal why (taken_image_refusal t)) (sym (restarts_are_taken given outcome)) ∙ sym (engine_refusals_are_taken given outcome) ∙ e)

module _ {D C : Type 0} {H : chares.Ghosts C} where
  -- so a restart that isn't bad, of a store that was said to be made, was from lawful files
  pub good_is_lawful : (kinds : Kinds) (events : List Event) (durable : Option ℕ) (n processors : ℕ) (outcome : CrashBytes) (r : Result (EngineShown D) (NotRestarted D C H)) → durable ≡ Some n →
      IfOk r (λ engine. IsOpenedOn processors (core_of engine)) → IfOk r (λ engine. IsFound outcome (core_of engine)) →
      IsGood kinds events durable (core_or_refusal r) → IsLawful (new_world kinds) 0 events n outcome
  good_is_lawful kinds events durable n processors outcome (Ok engine) is opens found good =
      opened_is_lawful kinds events n processors (core_of engine) outcome opens found (subst (λ (d : Option ℕ). HasFirst kinds events (unwrap_or d 0) (core_of engine)) is good)
  good_is_lawful kinds events durable n processors outcome (Err refused) is opens found good =
      absurd (let never : ⊥ = let both = sym is ∙ good.1 in cc in never)

  -- where none was said to be made, it was from such files too, or from those of no store
  pub good_is_nothing_or_lawful : (kinds : Kinds) (events : List Event) (durable : Option ℕ) (processors : ℕ) (given : Blanks) (outcome : CrashBytes) (disk : D) (blanks : Stock C H)
      (r : Result (EngineShown D) (NotRestarted D C H)) → durable ≡ None → IfOk r (λ engine. IsOpenedOn processors (core_of engine)) → IfOk r (λ engine. IsFound outcome (core_of engine)) →
      (is_processor_count processors ≡ false → IsHandedBack disk blanks r) →
      (is_processor_count processors ≡ true → AnswersBy (engine_refusal given outcome) (core_or_refusal r)) →
      IsGood kinds events durable (core_or_refusal r) → IsNothingOrLawful kinds events outcome
  good_is_nothing_or_lawful kinds events durable processors given outcome disk blanks (Ok engine) is opens found bad answer good =
      inr (opened_is_lawful kinds events 0 processors (core_of engine) outcome opens found (subst (λ (d : Option ℕ). HasFirst kinds events (unwrap_or d 0) (core_of engine)) is good))
  good_is_nothing_or_lawful kinds events durable processors given outcome disk blanks (Err refused) is opens found bad answer good =
      let why : engine_refusal given outcome ≡ Some refusals.NothingHere =
      elim (is_processor_count processors) as (λ b. (b ≡ false → refused.refusal ≡ refusals.BadPes)
      → (b ≡ true → AnswersBy {X = Core} (engine_refusal given outcome) (Err refused.refusal)) → engine_refusal given outcome ≡ Some refusals.NothingHere) [
        | true ↦ λ bad answer. subst (λ (refusal : Refusal). AnswersBy {X = Core} (engine_refusal given outcome) (Err refusal)) good.0 (answer refl)
        | false ↦ λ bad answer. absurd (let both : refusals.BadPes ≡ refusals.NothingHere = sym (bad refl) ∙ good.0 in let never : ⊥ = cc in never)
      ] (λ no. (bad no).0) answer in
      inl (nothing_is_here given outcome why)
