-- What halts a store: a failure of the device, and nothing else.
use Rattle.std.proofs.Common.{◌≡◌, inl, inr, ℕ, ◌==◌, ◌++◌, Bool, true, false, if◌then◌else◌, List, length, [], ◌∷◌, Option, Some, None, refl, sym, ap, subst, ◌∙◌}
use Rattle.std.specs.Prelude.{not}
use Rattle.charmlet_model.specs.declared.kind_version.KindVersion.{KindVersion}
use Rattle.charmlet_model.specs.declared.message.Message.{Message}
use Rattle.charmlet_model.specs.declared.names.MsgId.{MsgId}
use Rattle.charmlet_model.specs.declared.refusal.Refusal.{Refusal}
use Rattle.charmlet_model.specs.declared.refusal.Refusal.TheVariants as refusals
use Rattle.charmlet_model.specs.declared.step.Answer.{Answer}
use Rattle.charmlet_model.specs.declared.step.Answer.TheVariants as answers
use Rattle.charmlet_model.specs.declared.step.Step.{Step}
use Rattle.charmlet_model.specs.declared.step.Step.TheVariants as steps
use Rattle.charmlet_model.specs.World.{client_of, version_of_array}
use Rattle.charmlet_model.specs.Told.{told}
use Rattle.charmlet_model.specs.Core as core
use Rattle.charmlet_model.specs.Core.{Core, CoreStep, CoreAnswer, Request, Status, Assign, Commit, Finish, Release, Move, Flush, Checkpoint, Tells, Counts, Done, Refuses, Blanks, Stepped, Check, When, MayLackMemory, MayFail, answer_of, assigned_to, away_checks, blank_for, checks, committed, durable_world, first_refusal, has_words, is_repeat, lacks_blank, message_checks, new_request_checks, next_core, pending_message, place_or_home, present, stepped_unless}
use Rattle.charmlet_model.specs.Run.{Checkpoints, Delivers, Does, Flushes, Goes, IsDelivered, Moves, StoreView, TellsClient}
use Rattle.charmlet_disk.specs.declared.disk.Disk as disks
use Rattle.charmlet_disk.specs.Disk.{faults_after}
use Rattle.charmlet_engine.specs.Engine.{EngineShown, core_of, view_of}
use Rattle.charmlet_engine.specs.Outcomes.{is_no_fault, not_device}
use Rattle.charmlet_engine.specs.Taken.{Takes}
use Rattle.charmlet_lab.specs.Rounds.{HaltsByFailure}

-- ---- one step of the core

-- the answer doesn't say that the device failed
abbrev goes_on : CoreAnswer → Bool
goes_on (Refuses refusal) = not_device refusal
goes_on _ = true

-- no condition's refusal is the device's
abbrev AreOthers : List Check → Type 0
AreOthers [] = Unit {0}
AreOthers (When holds refusal ∷ more) = (not_device refusal ≡ true) × AreOthers more
AreOthers (MayLackMemory ∷ more) = AreOthers more
AreOthers (MayFail ∷ more) = AreOthers more

either : (b : Bool) (xs ys : List Check) → AreOthers xs → AreOthers ys → AreOthers (if b then xs else ys)
either true xs ys p q = p
either false xs ys p q = q

first_is_other : (order : List Check) (refusal : Refusal) → AreOthers order → first_refusal order ≡ Some refusal → not_device refusal ≡ true
first_is_other [] refusal others is = absurd cc
first_is_other (When true other ∷ more) refusal others is = (let same : other ≡ refusal = cc in ap not_device (sym same) ∙ others.0)
first_is_other (When false other ∷ more) refusal others is = first_is_other more refusal others.1 is
first_is_other (MayLackMemory ∷ more) refusal others is = first_is_other more refusal others is
first_is_other (MayFail ∷ more) refusal others is = first_is_other more refusal others is

blanks_others : (blanks : Blanks) (kind_version : Option KindVersion) → AreOthers (lacks_blank blanks kind_version ++ MayLackMemory ∷ [])
blanks_others blanks None = tt
blanks_others blanks (Some kind) = (refl, tt)

message_others : (core : Core) (blanks : Blanks) (processor : ℕ) (m : Option Message) → AreOthers (message_checks core blanks processor m)
message_others core blanks processor None = (refl, tt)
message_others core blanks processor (Some m) = (refl, (refl, (refl, blanks_others blanks (blank_for core m))))

are_others : (core : Core) (blanks : Blanks) (step : CoreStep) → AreOthers (checks core blanks step)
are_others core blanks (Request client number to entry words) =
    (refl, either (is_repeat core client number) (MayLackMemory ∷ []) (new_request_checks core (client_of (present core) client) client number to words) tt (refl, (refl, (refl, (refl, (refl, (refl, tt)))))))
are_others core blanks (Status client number) = (refl, either (has_words (told (durable_world core) client number)) (MayLackMemory ∷ []) [] tt tt)
are_others core blanks (Assign processor id) = (refl, (refl, (refl, message_others core blanks processor (pending_message core id))))
are_others core blanks (Commit processor) = (refl, tt)
are_others core blanks (Finish processor) = tt
are_others core blanks (Release processor) = tt
are_others core blanks (Move x processor) =
    (refl, (refl, (refl, (refl, either (place_or_home core x == processor) [] (away_checks core blanks x processor) tt (refl, blanks_others blanks (version_of_array (present core) x.array))))))
are_others core blanks Flush = (refl, either (core.durable == length core.history) [] _ tt (refl, tt))
are_others core blanks Checkpoint = (refl, (refl, (refl, (refl, tt))))

-- what is done doesn't halt the store
goes_either : (b : Bool) (core other : Core) → other.halted ≡ core.halted → (if b then core else other).halted ≡ core.halted
goes_either true core other is = refl
goes_either false core other is = is

goes_committed : (core : Core) (processor : ℕ) (id : Option MsgId) → (committed core processor id).halted ≡ core.halted
goes_committed core processor None = refl
goes_committed core processor (Some id) = refl

next_goes : (core : Core) (step : CoreStep) → (next_core core step).halted ≡ core.halted
next_goes core (Request client number to entry words) = goes_either (is_repeat core client number) core _ refl
next_goes core (Status client number) = refl
next_goes core (Assign processor id) = refl
next_goes core (Commit processor) = goes_committed core processor (assigned_to core processor)
next_goes core (Finish processor) = goes_committed core processor (assigned_to core processor)
next_goes core (Release processor) = refl
next_goes core (Move x processor) = goes_either (place_or_home core x == processor) core _ refl
next_goes core Flush = refl
next_goes core Checkpoint = refl

answer_goes : (core : Core) (step : CoreStep) → goes_on (answer_of core step) ≡ true
answer_goes core (Request client number to entry words) = refl
answer_goes core (Status client number) = refl
answer_goes core (Assign processor id) = refl
answer_goes core (Commit processor) = refl
answer_goes core (Finish processor) = refl
answer_goes core (Release processor) = refl
answer_goes core (Move x processor) = refl
answer_goes core Flush = refl
answer_goes core Checkpoint = refl

-- so a store that isn't halted is so after a step if and only if the answer says that the device failed
module _ (store next : StoreView) (step : CoreStep) (runs : store.core.halted ≡ false) where
  abbrev Says : Stepped → Type 0
  Says s = not s.core.halted ≡ goes_on s.answer

  unless : (o : Option Refusal) → ((refusal : Refusal) → o ≡ Some refusal → not_device refusal ≡ true) → Says (stepped_unless store.core store.blanks step o)
  unless None others = ap not (next_goes store.core step ∙ runs) ∙ sym (answer_goes store.core step)
  unless (Some refusal) others = ap not runs ∙ sym (others refusal refl)

  goes : (answer : CoreAnswer) → Goes store step answer next → not next.core.halted ≡ goes_on answer
  goes answer s =
      let order = checks store.core store.blanks step in
      elim s.1 [
        | inl same ↦ subst Says (sym same) (unless (first_refusal order) (λ refusal is. first_is_other order refusal (are_others store.core store.blanks step) is))
        | inr lacking ↦ elim lacking [
          | inl memory ↦ subst Says (sym memory.1) (ap not runs)
          | inr device ↦ subst Says (sym device.1) refl
        ]
      ]

-- ---- steps of a run

not_true : (b : Bool) → not b ≡ true → b ≡ false
not_true true e = cc
not_true false e = refl

-- a store that delivers a message goes on
pub delivered_goes : (old new : StoreView) (processor : ℕ) (id : MsgId) → old.core.halted ≡ false → IsDelivered old processor id new → new.core.halted ≡ false
delivered_goes old new processor id runs delivered =
    let mid = delivered.0 in
    let meanwhile = not_true mid.core.halted (goes old mid (Assign processor id) runs Done delivered.1) in
    not_true new.core.halted (goes mid new (Commit processor) meanwhile Done delivered.2)

module _ (old new : StoreView) (runs : old.core.halted ≡ false) where
  tells : (step : CoreStep) (answer : Answer) → TellsClient old step answer new → not new.core.halted ≡ is_no_fault answer
  tells step (answers.Told told) does = goes old new step runs (Tells told) does
  tells step (answers.Refused refusal) does = goes old new step runs (Refuses refusal) does
  tells step _ does = absurd does

  delivers : (processor : ℕ) (id : MsgId) (answer : Answer) → Delivers old processor id answer new → not new.core.halted ≡ is_no_fault answer
  delivers processor id (answers.Delivered done) does = ap not (delivered_goes old new processor id runs does.1)
  delivers processor id (answers.Refused refusal) does = elim does [
    | inl refused ↦ goes old new (Assign processor id) runs (Refuses refusal) refused
    | inr released ↦ (let mid = released.1.0 in
        let meanwhile = not_true mid.core.halted (goes old mid (Assign processor id) runs Done released.1.1) in
        goes mid new (Release processor) meanwhile Done released.1.2 ∙ sym (ap not_device released.0))
  ]
  delivers processor id _ does = absurd does

  moves : (x : _) (processor : ℕ) (answer : Answer) → Moves old x processor answer new → not new.core.halted ≡ is_no_fault answer
  moves x processor (answers.Moved elem place) does = goes old new (Move x processor) runs Done does.2
  moves x processor (answers.Refused refusal) does = goes old new (Move x processor) runs (Refuses refusal) does
  moves x processor _ does = absurd does

  flushes : (answer : Answer) → Flushes old answer new → not new.core.halted ≡ is_no_fault answer
  flushes (answers.Flushed durable) does = goes old new Flush runs (Counts durable) does
  flushes (answers.Refused refusal) does = goes old new Flush runs (Refuses refusal) does
  flushes _ does = absurd does

  checkpoints : (answer : Answer) → Checkpoints old answer new → not new.core.halted ≡ is_no_fault answer
  checkpoints (answers.Checkpointed generation) does = goes old new Checkpoint runs (Counts generation) does
  checkpoints (answers.Refused refusal) does = goes old new Checkpoint runs (Refuses refusal) does
  checkpoints _ does = absurd does

  -- a step halts a store if and only if it is answered that the device failed
  pub halts : (step : Step) (answer : Answer) → Does old step answer new → not new.core.halted ≡ is_no_fault answer
  halts (steps.Request client number to entry words) answer does = tells (Request client number to entry words) answer does
  halts (steps.Status client number) answer does = tells (Status client number) answer does
  halts (steps.Deliver processor id) answer does = delivers processor id answer does
  halts (steps.Move x processor) answer does = moves x processor answer does
  halts steps.Flush answer does = flushes answer does
  halts steps.Checkpoint answer does = checkpoints answer does

-- ---- engines

module _ {D : Type 0} (G : disks.Ghosts D) where
  -- one whose store and disk stay as they are
  pub halts_not : (old new : EngineShown D) → (core_of new).halted ≡ (core_of old).halted → new.disk ≡ old.disk → HaltsByFailure G old new
  halts_not old new same disk = λ runs. ap G.faults disk ∙ ap (λ (h : Bool). faults_after (not h) (G.faults old.disk)) (sym (same ∙ runs))

  -- one that takes a step
  pub halts_by_step : (old new : EngineShown D) (step : Step) (answer : Answer) → Does (view_of old) step answer (view_of new) → G.faults new.disk ≡ faults_after (is_no_fault answer) (G.faults old.disk) → HaltsByFailure G old new
  halts_by_step old new step answer does counted = λ runs. counted ∙ ap (λ (b : Bool). faults_after b (G.faults old.disk)) (sym (halts (view_of old) (view_of new) runs step answer does))

  -- one that writes nothing
  pub halts_by_taking : (old new : EngineShown D) (step : Step) (answer : Answer) → Takes G old new step answer → HaltsByFailure G old new
  halts_by_taking old new step answer takes = halts_by_step old new step answer takes.does (ap G.faults takes.disk ∙ ap (λ (b : Bool). faults_after b (G.faults old.disk)) (sym takes.no_fault))

  -- one after another, of which the first doesn't halt
  pub halts_after : (first mid last : EngineShown D) → HaltsByFailure G first mid → ((core_of first).halted ≡ false → (core_of mid).halted ≡ false) → HaltsByFailure G mid last → HaltsByFailure G first last
  halts_after first mid last before goes after = λ runs.
      after (goes runs) ∙ ap (λ (n : ℕ). faults_after (not (core_of last).halted) n) (before runs ∙ ap (λ (h : Bool). faults_after (not h) (G.faults first.disk)) (goes runs))
