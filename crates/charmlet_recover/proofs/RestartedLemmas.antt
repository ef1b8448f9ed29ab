-- A store that came back from halves that were opened.
use Rattle.std.proofs.Common.{◌≡◌, ℕ, Bool, List, length, true, refl, sym, ap, subst, ◌∙◌}
use Rattle.std.specs.Prelude.{IfErr, IfOk, Result, Ok, Err}
use Rattle.charmlet_model.specs.declared.half.Half.{Half}
use Rattle.charmlet_model.specs.declared.half.Half.TheVariants.{Zero, One}
use Rattle.charmlet_model.specs.declared.refusal.Refusal.{Refusal}
use Rattle.charmlet_model.specs.declared.refusal.Refusal.TheVariants as refusals
use Rattle.charmlet_model.specs.Core.{Blanks, Core}
use Rattle.charmlet_model.specs.Sound.{opened as opened_core}
use Rattle.charmlet_chare.specs.declared.chare.Chare as chares
use Rattle.charmlet_disk.specs.declared.disk.Disk as disks
use Rattle.charmlet_disk.specs.Calls.{ReadsSame}
use Rattle.charmlet_disk.specs.File.{File}
use Rattle.charmlet_image.specs.Halves.{Open, Takes, found, taken}
use Rattle.charmlet_image.specs.Images.{Saved, spell_half}
use Rattle.charmlet_recovery.specs.Recovered as files
use Rattle.charmlet_recovery.specs.Recovered.{recovered}
use Rattle.charmlet_recovery.specs.Restarts.{taken_refusal}
use Rattle.charmlet_stock.specs.declared.stock.Stock.{Stock}
use Rattle.charmlet_stock.specs.ByKind.{for_all}
use Rattle.charmlet_stock.specs.Stock.{blanks_in}
use Rattle.charmlet_halves.specs.declared.halves.Halves.{Halves}
use Rattle.charmlet_halves.specs.declared.opened.Opened.{Opened}
use Rattle.charmlet_halves.specs.Answers.{is_finding_refusal}
use Rattle.charmlet_halves.specs.Found.{Finds, Says}
use Rattle.charmlet_halves.specs.Opened.{OpensAs}
use Rattle.charmlet_halves.specs.Halves.{disk_of, taken_half, text_of}
use Rattle.charmlet_persist.specs.Writes.Rest.{GoesOn, IsCurrent, IsKept}
use Rattle.charmlet_recover.specs.declared.restarted.NotRestarted.{NotRestarted}
use Rattle.charmlet_recover.specs.declared.restarted.Recovered.{Recovered}
use Rattle.charmlet_replay.specs.Replayed.{IsReplayed}
use Rattle.charmlet_recover.specs.Restart.{AnswersBy, CameBack, CameFromFiles, IsOpenedOn, IsReadFrom, IsRefused, IsSameStock, IsTakenFrom, OpensWith, bytes_on, core_of, is_half_refusal, is_restart_refusal, restarted_or_refused, replayed_in}
use Rattle.charmlet_recover.proofs.Answered.{half_is_short, taken_is_recovered}
use Rattle.charmlet_recover.proofs.Kept.{opened_goes_on, opened_keeps, survey_found}
use Rattle.charmlet_recover.proofs.Left.{left_unwanted}
use Rattle.charmlet_store.specs.Store.{blanks_of, supplied_in}

-- what is true where another fact is
pub then_ok : {A E : Type 0} (P Q : A → Type 0) (r : Result A E) → ((x : A) → P x → Q x) → IfOk r P → IfOk r Q
then_ok P Q (Ok x) so is = so x is
then_ok P Q (Err e) so is = tt

-- ---- refusals

pub half_is_restart : (refusal : Refusal) → is_half_refusal refusal ≡ true → is_restart_refusal refusal ≡ true
half_is_restart refusals.Memory e = refl
half_is_restart (refusals.Damaged half offset) e = refl
half_is_restart (refusals.BlanksWanted kind count) e = refl
half_is_restart _ e = absurd cc

pub finding_is_restart : (refusal : Refusal) → is_finding_refusal refusal ≡ true → is_restart_refusal refusal ≡ true
finding_is_restart refusals.Memory e = refl
finding_is_restart refusals.Device e = refl
finding_is_restart (refusals.Damaged half offset) e = refl
finding_is_restart refusals.NothingHere e = refl
finding_is_restart _ e = absurd cc

-- neither is for the number of processors
pub half_is_not_bad : (refusal : Refusal) → is_half_refusal refusal ≡ true → refusal ≡ refusals.BadPes → ⊥
half_is_not_bad refusal is bad = let no_half : is_half_refusal refusals.BadPes ≡ true = ap is_half_refusal (sym bad) ∙ is in absurd cc

pub finding_is_not_bad : (refusal : Refusal) → is_finding_refusal refusal ≡ true → refusal ≡ refusals.BadPes → ⊥
finding_is_not_bad refusal is bad = let no_finding : is_finding_refusal refusals.BadPes ≡ true = ap is_finding_refusal (sym bad) ∙ is in absurd cc

-- ---- a store that came back

module _ {D C : Type 0} {G : disks.Ghosts D} {H : chares.Ghosts C} where
  -- a fact of what came back is one of the answer
  pub as_answer : (P : Recovered D C G → Type 0) (result : Result (Recovered D C G) (NotRestarted D C H)) → IfOk result P → IfOk (restarted_or_refused result) P
  as_answer P (Ok back) is = is
  as_answer P (Err refused) is = tt

module _ {D C : Type 0} {G : disks.Ghosts D} where
  module _ (opened : Opened D G) (s : Saved) (says : Says opened.survey.bytes.items opened.survey.contents s) (opens_as : OpensAs opened) (processors : ℕ) (given : Blanks)
      (back : Recovered D C G) (same : back.halves ≡ opened.halves) (is : IsReplayed processors given s (replayed_in back)) where
    abbrev core : Core
    core = core_of back

    pub came_opens : IsOpenedOn processors back
    came_opens = is.ready.opened ∙ ap (λ (n : ℕ). opened_core n core.opening core.before core.generation core.log_end) is.on

    core_is : core ≡ opened_core processors core.opening core.before s.header.generation (length (spell_half s))
    core_is = came_opens ∙ (λ i. opened_core processors core.opening core.before (is.generation i) (is.log_end i))

    came_with : OpensWith given back s
    came_with = record {
      means = is.means;
      current = is.current;
      generation = is.generation;
      log_end = is.log_end;
      left = left_unwanted s core.opening core.before says.good is.means given (blanks_of back.store) is.left;
    }

    pub came_read : IsReadFrom given back
    came_read = (opened.survey.bytes.items, s, says.found, came_with)

    pub came_goes_on : GoesOn core back.halves
    came_goes_on =
        subst (λ (h : Halves D G). GoesOn core h) (sym same)
        (subst (λ (c : Core). GoesOn {G = G} c opened.halves) (sym core_is) (opened_goes_on {G = G} opened s says opens_as processors core.before core.opening))

    module _ (old : Half → File) (finds : Finds (old Zero).now (old One).now (Ok opened.survey)) where
      is_taken : taken (bytes_on old Zero) (bytes_on old One) ≡ Takes opened.survey.half s
      is_taken = (survey_found old opened.survey s finds says).1

      pub came_found : recovered (bytes_on old) ≡ files.Found core.opening core.before core.generation
      came_found = taken_is_recovered (bytes_on old) opened.survey.half s core.opening core.before is_taken is.means ∙ ap (files.Found core.opening core.before) (sym is.generation)

      pub came_taken : IsTakenFrom given (bytes_on old) back
      came_taken = (s, is_taken ∙ ap (λ (h : Half). Takes h s) (sym opens_as.taken ∙ ap taken_half (sym same)), came_with)

      pub came_keeps : ReadsSame old (G.file (disk_of opened.halves)) → text_of opened.halves ≡ spell_half s → G.honest (disk_of opened.halves) → IsKept core back.halves
      came_keeps reads text honest =
          subst (λ (h : Halves D G). IsKept core h) (sym same)
          (subst (λ (c : Core). IsKept {G = G} c opened.halves) (sym core_is) (opened_keeps {G = G} opened s says opens_as old finds reads text honest processors core.before core.opening is.means))

      -- and where the half has the newest versions alone, events may be appended to it
      pub came_current : text_of opened.halves ≡ spell_half s → back.is_current ≡ true → IsCurrent back.halves
      came_current text current =
          subst (λ (h : Halves D G). IsCurrent h) (sym same)
          (record { saved = s; text = text; good = says.good; newest = sym is.current ∙ current })

-- ---- the promises of a restart

abbrev Answer : {D C : Type 0} → disks.Ghosts D → chares.Ghosts C → Type 0
Answer {D} {C} G H = Result (Recovered D C G) (NotRestarted D C H)

module _ {D C : Type 0} {G : disks.Ghosts D} {H : chares.Ghosts C} where
  module _ (opened : Opened D G) (s : Saved) (says : Says opened.survey.bytes.items opened.survey.contents s) (opens_as : OpensAs opened) (processors : ℕ) (given : Blanks) where
    abbrev HasHalves : Answer G H → Type 0
    HasHalves r = IfOk r (λ back. back.halves ≡ opened.halves)

    abbrev HasReplayed : Answer G H → Type 0
    HasReplayed r = IfOk r (λ back. IsReplayed processors given s (replayed_in back))

    pub all_came_back : (supplied : Blanks) (r : Answer G H) → HasHalves r → HasReplayed r → IfOk r (λ back. supplied_in back.store ≡ supplied) → IfOk r (λ back. back.store.keeping ≡ for_all true) → IfOk r (CameBack processors given supplied)
    all_came_back supplied (Ok back) same is are keeping = record {
      opens = came_opens opened s says opens_as processors given back same is;
      read = came_read opened s says opens_as processors given back same is;
      supplied_are = are;
      keeping = keeping;
      goes_on = came_goes_on opened s says opens_as processors given back same is;
    }
    all_came_back supplied (Err refused) same is are keeping = tt

    pub all_from_files : (old : Half → File) → Finds (old Zero).now (old One).now (Ok opened.survey) → ReadsSame old (G.file (disk_of opened.halves)) → text_of opened.halves ≡ spell_half s → G.honest (disk_of opened.halves) →
        (r : Answer G H) → HasHalves r → HasReplayed r → IfOk r (CameFromFiles given (bytes_on old))
    all_from_files old finds reads text honest (Ok back) same is = record {
      found = came_found opened s says opens_as processors given back same is old finds;
      taken_from = came_taken opened s says opens_as processors given back same is old finds;
      keeps = came_keeps opened s says opens_as processors given back same is old finds reads text honest;
      current = came_current opened s says opens_as processors given back same is old finds text;
    }
    all_from_files old finds reads text honest (Err refused) same is = tt

  pub all_refused : (are_counts : Bool) (blanks : Stock C H) (half : Half) (bytes : List ℕ) (s : Saved) → found bytes ≡ Open s → (r : Answer G H) → AnswersBy (taken_refusal (blanks_in blanks) (Takes half s)) (restarted_or_refused r) →
      IfErr r (λ refused. is_half_refusal refused.refusal ≡ true) → IfErr r (λ refused. IsSameStock blanks refused.blanks) → IfErr r (IsRefused are_counts blanks)
  all_refused are_counts blanks half bytes s is (Ok back) so of_half same = tt
  all_refused are_counts blanks half bytes s is (Err refused) so of_half same = record {
    bad = λ bad. absurd (half_is_not_bad refused.refusal of_half bad);
    known = half_is_restart refused.refusal of_half;
    short = half_is_short (Recovered D C G) (blanks_in blanks) half bytes s refused.refusal is so;
    back = same;
  }
