-- What the halves of a store keep that opens with what the taken one means.
use Rattle.std.proofs.Common.{◌≡◌, ◌⊎◌, inl, inr, ℕ, ◌+◌, true, false, cond, eqb, List, length, refl, sym, ap, subst, ◌∙◌, arith}
use Rattle.std.specs.Prelude.{Ok}
use Rattle.std.proofs.lemmas.Bool.{eqb-true}
use Rattle.charmlet_model.specs.declared.half.Half.{Half}
use Rattle.charmlet_model.specs.declared.half.Half.TheVariants.{Zero, One}
use Rattle.charmlet_model.specs.Half.{other}
use Rattle.charmlet_model.specs.World.{World}
use Rattle.charmlet_model.specs.Sound.{opened as opened_core}
use Rattle.charmlet_image.specs.declared.header.Header.{Header}
use Rattle.charmlet_image.specs.Images.{Saved, spell_half}
use Rattle.charmlet_image.specs.Halves as halves
use Rattle.charmlet_image.specs.Halves.{Closed, Open, Damaged, found, found_from, Top, Shut, Begun, Broken, top, Takes, DamagedAt, choice, taken, IsSaved}
use Rattle.charmlet_image.proofs.HalfLemmas.{opens}
use Rattle.charmlet_recovery.specs.Meanings.{Whole}
use Rattle.charmlet_recovery.specs.Recovered.{meaning_of}
use Rattle.charmlet_recovery.specs.Stores.{IsSuperseded, Stores}
use Rattle.charmlet_disk.specs.declared.disk.Disk.{Ghosts}
use Rattle.charmlet_disk.specs.Calls.{ReadsSame}
use Rattle.charmlet_disk.specs.File.{File}
use Rattle.charmlet_halves.specs.declared.halves.Halves.{Halves}
use Rattle.charmlet_halves.specs.declared.opened.Opened.{Opened}
use Rattle.charmlet_halves.specs.declared.surveyed.Surveyed.{Surveyed}
use Rattle.charmlet_halves.specs.Found.{Finds, Says}
use Rattle.charmlet_halves.proofs.Begun.{bytes_by}
use Rattle.charmlet_halves.specs.Opened.{OpensAs}
use Rattle.charmlet_halves.specs.Halves.{disk_of, is_halted, taken_half, text_of}
use Rattle.charmlet_persist.specs.Writes.Rest.{GoesOn, IsKept, Rests}
use Rattle.charmlet_persist.proofs.WritesLemmas.Resting.{rest_stores}
use Rattle.charmlet_recover.specs.Restart.{bytes_on}

-- ---- the other half is superseded

not_one : (f : halves.Found) (s : Saved) → halves.taken_half One f ≡ Takes Zero s → ⊥
not_one Closed s e = cc
not_one (Open t) s e = cc
not_one (Damaged offset) s e = cc

not_zero : (f : halves.Found) (s : Saved) → halves.taken_half Zero f ≡ Takes One s → ⊥
not_zero Closed s e = cc
not_zero (Open t) s e = cc
not_zero (Damaged offset) s e = cc

-- how the half begins that isn't taken: it is shut, or has the generation before
abbrev IsBefore : Top → ℕ → Type 0
IsBefore t generation = (t ≡ Shut) ⊎ ((h : Header) × (rest : List ℕ) × (t ≡ Begun h rest) × (generation ≡ h.generation + 1))

second_before : (size more : ℕ) (s : Saved) (rest : List ℕ) (u : Top) → choice size (Begun s.header rest) more u ≡ Takes Zero s → IsBefore u s.header.generation
second_before size more s rest Shut e = inl refl
second_before size more s rest (Begun k others) e =
    let later = found_from more (Begun k others) in
    let earlier = found_from size (Begun s.header rest) in
    elim (eqb k.generation (s.header.generation + 1)) as (λ b. cond b (halves.taken_half One later) (cond (eqb s.header.generation (k.generation + 1)) (halves.taken_half Zero earlier) (DamagedAt One 5)) ≡ Takes Zero s →
    IsBefore (Begun k others) s.header.generation) [
      | true ↦ λ same. absurd (not_one later s same)
      | false ↦
          elim (eqb s.header.generation (k.generation + 1)) as (λ b. eqb s.header.generation (k.generation + 1) ≡ b → cond b (halves.taken_half Zero earlier) (DamagedAt One 5) ≡ Takes Zero s →
          IsBefore (Begun k others) s.header.generation) [
            | true ↦ λ next same. inr (k, others, refl, eqb-true _ _ next)
            | false ↦ λ next same. absurd cc
          ] refl
    ] e
second_before size more s rest (Broken offset) e = absurd cc

first_before : (size more : ℕ) (s : Saved) (rest : List ℕ) (t : Top) → choice size t more (Begun s.header rest) ≡ Takes One s → IsBefore t s.header.generation
first_before size more s rest Shut e = inl refl
first_before size more s rest (Begun h others) e =
    let later = found_from more (Begun s.header rest) in
    let earlier = found_from size (Begun h others) in
    elim (eqb s.header.generation (h.generation + 1)) as (λ b. eqb s.header.generation (h.generation + 1) ≡ b →
    cond b (halves.taken_half One later) (cond (eqb h.generation (s.header.generation + 1)) (halves.taken_half Zero earlier) (DamagedAt One 5)) ≡ Takes One s → IsBefore (Begun h others) s.header.generation) [
      | true ↦ λ next same. inr (h, others, refl, eqb-true _ _ next)
      | false ↦ λ next.
          elim (eqb h.generation (s.header.generation + 1)) as (λ b. cond b (halves.taken_half Zero earlier) (DamagedAt One 5) ≡ Takes One s → IsBefore (Begun h others) s.header.generation) [
            | true ↦ λ same. absurd (not_zero earlier s same)
            | false ↦ λ same. absurd cc
          ]
    ] refl e
first_before size more s rest (Broken offset) e = absurd cc

-- the half that isn't taken is superseded by the one that is, whatever its bytes are
pub taken_supersedes : (bytes : Half → List ℕ) (half : Half) (s : Saved) → found (bytes half) ≡ Open s → taken (bytes Zero) (bytes One) ≡ Takes half s → IsSuperseded (bytes (other half)) s.header.generation
taken_supersedes bytes Zero s is e =
    let a = opens (bytes Zero) s is in
    second_before (length (bytes Zero)) (length (bytes One)) s a.rest (top (bytes One)) (ap (λ t. choice (length (bytes Zero)) t (length (bytes One)) (top (bytes One))) (sym a.begins) ∙ e)
taken_supersedes bytes One s is e =
    let a = opens (bytes One) s is in
    first_before (length (bytes Zero)) (length (bytes One)) s a.rest (top (bytes Zero)) (ap (choice (length (bytes Zero)) (top (bytes Zero)) (length (bytes One))) (sym a.begins) ∙ e)

-- ---- halves that were opened

module _ {D : Type 0} {G : Ghosts D} (halves : Halves D G) (bytes : Half → List ℕ) (same : (half : Half) → (G.file (disk_of halves) half).now ≡ bytes half)
    (s : Saved) (good : IsSaved s) (is_found : found (bytes (taken_half halves)) ≡ Open s) (is_taken : taken (bytes Zero) (bytes One) ≡ Takes (taken_half halves) s) (text : text_of halves ≡ spell_half s)
    (w : World) (count : ℕ) (means : meaning_of s ≡ Whole w count) where
  -- they are at rest with what the taken one means
  pub opened_rests : Rests halves w count s.header.generation
  opened_rests = record {
    saved = s;
    text = text;
    stands = record {
      good = good;
      means = means;
      has_generation = refl;
      superseded = subst (λ (b : List ℕ). IsSuperseded b s.header.generation) (sym (same (other (taken_half halves)))) (taken_supersedes bytes (taken_half halves) s is_found is_taken);
    };
  }

  -- and keep it for the store that opens with it
  pub opened_is_kept : (processors log_end : ℕ) → G.honest (disk_of halves) → is_halted halves ≡ false → IsKept (opened_core processors w count s.header.generation log_end) halves
  opened_is_kept processors log_end honest going =
      let none : count ≡ count + 0 = omega arith in
      record {
        now = λ o left. record {
          kept = 0;
          durable_kept = omega arith;
          none_invented = omega arith;
          generation = s.header.generation;
          stores = subst (λ (n : ℕ). Stores o w n s.header.generation) none (rest_stores {G = G} halves w count s.header.generation honest going opened_rests o left);
        };
        rest = λ _. subst (λ (n : ℕ). Rests {G = G} halves w n s.header.generation) none opened_rests;
      }

-- ---- in the words of the calls that opened them

-- what the bytes of the half say that was taken, on an honest disk
pub survey_found : (files : Half → File) (v : Surveyed) (s : Saved) → Finds (files Zero).now (files One).now (Ok v) → Says v.bytes.items v.contents s →
    (found (bytes_on files v.half) ≡ Open s) × (taken (bytes_on files Zero) (bytes_on files One) ≡ Takes v.half s)
survey_found files v s finds says = (ap found (sym (finds.0 ∙ bytes_by files v.half)) ∙ says.found, finds.2 s says)

module _ {D : Type 0} {G : Ghosts D} (opened : Opened D G) (s : Saved) (says : Says opened.survey.bytes.items opened.survey.contents s) (opens_as : OpensAs opened) where
  -- the halves go on with the half that was found, and its log
  pub opened_goes_on : (processors count : ℕ) (w : World) → GoesOn (opened_core processors w count s.header.generation (length (spell_half s))) opened.halves
  opened_goes_on processors count w = record {
    going = opens_as.going;
    log_end = opens_as.log_end ∙ says.log_end;
    generation = opens_as.generation ∙ ap (λ (h : Header). h.generation) says.header;
  }

  -- on an honest disk they keep what it means
  pub opened_keeps : (files : Half → File) → Finds (files Zero).now (files One).now (Ok opened.survey) → ReadsSame files (G.file (disk_of opened.halves)) → text_of opened.halves ≡ spell_half s →
      G.honest (disk_of opened.halves) → (processors count : ℕ) (w : World) → meaning_of s ≡ Whole w count →
      IsKept (opened_core processors w count s.header.generation (length (spell_half s))) opened.halves
  opened_keeps files finds same text honest processors count w means =
      let is = survey_found files opened.survey s finds says in
      let half : opened.survey.half ≡ taken_half opened.halves = sym opens_as.taken in
      opened_is_kept {G = G} opened.halves (bytes_on files) same s says.good (subst (λ (h : Half). found (bytes_on files h) ≡ Open s) half is.0)
      (subst (λ (h : Half). taken (bytes_on files Zero) (bytes_on files One) ≡ Takes h s) half is.1) text w count means processors (length (spell_half s)) honest opens_as.going
