-- What a client asks of an engine.
use Rattle.std.proofs.Common.{◌≡◌, ◌∷◌, [], ℕ, List, Result, Ok, Err, true, refl, sym, subst}
use Rattle.charmlet_model.specs.declared.names.Elem.{Elem}
use Rattle.charmlet_model.specs.declared.refusal.Refusal.{Refusal}
use Rattle.charmlet_model.specs.declared.step.Step.{Step}
use Rattle.charmlet_model.specs.declared.step.Step.TheVariants as steps_of
use Rattle.charmlet_model.specs.declared.step.Answer.{Answer}
use Rattle.charmlet_model.specs.declared.told.Told.{Told}
use Rattle.charmlet_model.specs.Core as core
use Rattle.charmlet_model.specs.Core.{Blanks, CoreStep, Steps}
use Rattle.charmlet_model.specs.Run.{Does, Goes, StoreView, TellsClient}
use Rattle.charmlet_model.specs.Sound.{IsSound}
use Rattle.charmlet_model.proofs.RunTruths.{does_between, told_true}
use Rattle.charmlet_disk.specs.declared.disk.Disk.{Ghosts}
use Rattle.charmlet_disk.specs.File.{MayLeave, CrashBytes}
use Rattle.charmlet_halves.specs.declared.halves.Halves.{Halves}
use Rattle.charmlet_halves.specs.Halves.{disk_of}
use Rattle.charmlet_history.specs.Kept.{Kept, core_in, told_or_refused}
use Rattle.charmlet_persist.specs.Writes.Quiet.{Quiet}
use Rattle.charmlet_store.specs.Store.{StoreShown, store_in, supplied_in}
use Rattle.charmlet_engine.specs.Engine.{EngineShown, client_answer, core_of}
use Rattle.charmlet_engine.specs.Outcomes.{is_no_fault}
use Rattle.charmlet_engine.specs.Taken.{Takes}
use Rattle.charmlet_engine.specs.Together.{AreTied, shown_by}
use Rattle.charmlet_engine.proofs.Lawful.{lawful_now, leaves_still}
use Rattle.charmlet_engine.proofs.Lives.{remembers_run}
use Rattle.charmlet_engine.proofs.Onward.{onward_quiet}
use Rattle.charmlet_engine.proofs.Quiets.{goes_quiet, told_goes_on}
use Rattle.charmlet_engine.proofs.Tied.{quiet_tied}

-- what a client is told, or a refusal, is the answer to its step
pub client_does : (store next : StoreView) (step : CoreStep) (result : Result Told Refusal) → Goes store step (told_or_refused result) next → TellsClient store step (client_answer result) next
client_does store next step (Ok told) goes = goes
client_does store next step (Err refusal) goes = goes

module _ {D : Type 0} (G : Ghosts D) (shown : EngineShown D) (was_sound : IsSound (core_of shown)) (old : StoreShown) (halves : Halves D G) (tied : AreTied old halves) (view_is : shown_by old halves ≡ shown)
    (only_now : (o : CrashBytes) → G.honest (disk_of halves) → G.since (disk_of halves) (G.moment (disk_of halves)) o → MayLeave (G.file (disk_of halves)) o) where
  sound : IsSound (core_in old.history)
  sound = subst (λ (e : EngineShown D). IsSound (core_of e)) (sym view_is) was_sound

  -- a step in memory
  module _ (new : StoreShown) (keeping : new.keeping ≡ old.keeping) (quiet : Quiet (core_in old.history) (core_in new.history)) where
    pub tied_quietly : AreTied new halves
    tied_quietly = quiet_tied {G = G} old new halves tied sound keeping quiet

    pub takes_quietly : IsSound (core_in new.history) → supplied_in new ≡ supplied_in old → (step : Step) (answer : Answer) → Does (store_in old) step answer (store_in new) → is_no_fault answer ≡ true →
        Takes G shown (shown_by new halves) step answer
    takes_quietly new_sound supplied step answer does no_fault =
        let before = core_in old.history in
        let after = core_in new.history in
        let onward = onward_quiet before after quiet in
        let reached = does_between (store_in old) (store_in new) step answer sound new_sound does in
        let told = told_true (store_in old) (store_in new) (store_in new) step answer reached does in
        let takes : Takes G (shown_by old halves) (shown_by new halves) step answer = record {
          does = does;
          told = told;
          remembers = λ past r. remembers_run past before after (step ∷ []) (answer ∷ []) onward new_sound (told, tt) r;
          advances = record {
            onward = onward;
            any_moment = λ honest. leaves_still {G = G} before after onward halves (tied.keeps honest) (λ o left. only_now o honest left);
            honest = ((λ h. h), (λ h. h));
          };
          now = λ honest o left. lawful_now {G = G} after halves (tied_quietly.keeps honest) o left;
          disk = refl;
          supplied = supplied;
          no_fault = no_fault;
        } in
        subst (λ (e : EngineShown D). Takes G e (shown_by new halves) step answer) view_is takes

  -- a request
  module _ (history : Kept) (client number : ℕ) (to : Elem) (entry : ℕ) (words : List ℕ) (result : Result Told Refusal)
      (steps : (blanks : Blanks) → Steps (core_in old.history) blanks (core.Request client number to entry words)
      (record { answer = told_or_refused result; core = core_in history; blanks = blanks })) where
    abbrev asked : StoreShown
    asked = record old { history = history }

    goes : Goes (store_in old) (core.Request client number to entry words) (told_or_refused result) (store_in asked)
    goes = steps (store_in old).blanks

    asked_quiet : Quiet (core_in old.history) (core_in history)
    asked_quiet = goes_quiet (store_in old) (store_in asked) (core.Request client number to entry words) (told_or_refused result) tt goes

    pub tied_asked : AreTied asked halves
    tied_asked = tied_quietly asked refl asked_quiet

    pub takes_request : IsSound (core_in history) → Takes G shown (shown_by asked halves) (steps_of.Request client number to entry words) (client_answer result)
    takes_request sound = takes_quietly asked refl asked_quiet sound refl (steps_of.Request client number to entry words) (client_answer result)
        (client_does (store_in old) (store_in asked) (core.Request client number to entry words) result goes)
        (told_goes_on (store_in old) (store_in asked) (core.Request client number to entry words) result tt goes)

  -- a question
  pub takes_status : (client number : ℕ) (result : Result Told Refusal) → Goes (store_in old) (core.Status client number) (told_or_refused result) (store_in old) →
      Takes G shown shown (steps_of.Status client number) (client_answer result)
  takes_status client number result goes =
      subst (λ (e : EngineShown D). Takes G shown e (steps_of.Status client number) (client_answer result)) view_is
      (takes_quietly old refl (goes_quiet (store_in old) (store_in old) (core.Status client number) (told_or_refused result) tt goes) sound refl
      (steps_of.Status client number) (client_answer result) (client_does (store_in old) (store_in old) (core.Status client number) result goes)
      (told_goes_on (store_in old) (store_in old) (core.Status client number) result tt goes))
