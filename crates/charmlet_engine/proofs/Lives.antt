-- What stores remember of their lives.
use Rattle.std.proofs.Common.{◌≡◌, ℕ, zero, suc, ◌+◌, ◌≤◌, true, List, [], ◌∷◌, ◌++◌, length, take, drop, refl, sym, ap, subst, ◌∙◌, arith, append_assoc, length-append, Some}
use Rattle.std.proofs.lemmas.List.{append-nil, length-take-le, take-append-drop}
use Rattle.std.proofs.Math.Bridge.{no_suc-le-zero}
use Rattle.std.proofs.Math.Seq.{take-append-add}
use Rattle.charmlet_model.specs.declared.event.Event.{Event}
use Rattle.charmlet_model.specs.declared.step.Step.{Step}
use Rattle.charmlet_model.specs.declared.step.Step.TheVariants as steps
use Rattle.charmlet_model.specs.declared.step.Answer.{Answer}
use Rattle.charmlet_model.specs.declared.step.Answer.TheVariants as answers
use Rattle.charmlet_model.specs.declared.told.Told as tellings
use Rattle.charmlet_model.specs.declared.told.Told.TheVariants as told
use Rattle.charmlet_model.specs.World.{World, world, client_of, can_all, IsLegal}
use Rattle.charmlet_model.specs.Row.{below, reply_to}
use Rattle.charmlet_model.specs.Core.{Core}
use Rattle.charmlet_model.specs.RunLaws.{AllTold, IsToldTrue}
use Rattle.charmlet_model.specs.Sound.{IsSound}
use Rattle.charmlet_model.specs.Told.{Holds}
use Rattle.charmlet_model.proofs.Histories.{world-append}
use Rattle.charmlet_model.proofs.Lasts.{holds_later}
use Rattle.charmlet_model.proofs.RunTruths.{all_told_join}
use Rattle.charmlet_recovery.proofs.Writing.{legal_histories_join, legal_histories_part}
use Rattle.charmlet_recover.specs.Restart.{OpensWithin}
use Rattle.charmlet_engine.specs.Outcomes.{Onward}
use Rattle.charmlet_engine.specs.Lives.{BeginningsAreRemembered, ComesBack, LivesAreRemembered, Past, PresentIsRemembered, Remembers, Restart, Run, with_kept, with_run}

-- ---- what is told of one history, of another one

abbrev Carries : World → List Event → World → List Event → Type 0
Carries v short w long = (client number : ℕ) (t : tellings.Told) → Holds v short client number t → Holds w long client number t

told_carried : (v w : World) (short long : List Event) (step : Step) (answer : Answer) → Carries v short w long → IsToldTrue v short step answer → IsToldTrue w long step answer
told_carried v w short long (steps.Request client number to entry words) (answers.Told t) carry h = carry client number t h
told_carried v w short long (steps.Status client number) (answers.Told t) carry h = carry client number t h
told_carried v w short long (steps.Request client number to entry words) (answers.Delivered id) carry h = tt
told_carried v w short long (steps.Request client number to entry words) (answers.Moved elem place) carry h = tt
told_carried v w short long (steps.Request client number to entry words) (answers.Flushed durable) carry h = tt
told_carried v w short long (steps.Request client number to entry words) (answers.Checkpointed generation) carry h = tt
told_carried v w short long (steps.Request client number to entry words) (answers.Refused refusal) carry h = tt
told_carried v w short long (steps.Status client number) (answers.Delivered id) carry h = tt
told_carried v w short long (steps.Status client number) (answers.Moved elem place) carry h = tt
told_carried v w short long (steps.Status client number) (answers.Flushed durable) carry h = tt
told_carried v w short long (steps.Status client number) (answers.Checkpointed generation) carry h = tt
told_carried v w short long (steps.Status client number) (answers.Refused refusal) carry h = tt
told_carried v w short long (steps.Deliver processor id) answer carry h = tt
told_carried v w short long (steps.Move x processor) answer carry h = tt
told_carried v w short long steps.Flush answer carry h = tt
told_carried v w short long steps.Checkpoint answer carry h = tt

all_carried : (v w : World) (short long : List Event) (asked : List Step) (answered : List Answer) → Carries v short w long → AllTold v short asked answered → AllTold w long asked answered
all_carried v w short long [] [] carry h = tt
all_carried v w short long [] (a ∷ answered) carry h = absurd h
all_carried v w short long (s ∷ asked) [] carry h = absurd h
all_carried v w short long (s ∷ asked) (a ∷ answered) carry h = (told_carried v w short long s a carry h.0, all_carried v w short long asked answered carry h.1)

-- what holds from a world in between holds from the beginning
carries_from : (w : World) (earlier history : List Event) → Carries (world w earlier) history w (earlier ++ history)
carries_from w earlier history client number told.Unknown h = tt
carries_from w earlier history client number told.Accepted h = subst (λ (v : World). number ≤ (client_of v client).last) (sym (world-append w earlier history)) h
carries_from w earlier history client number (told.Replied reply) h =
    let same = ap (world w) (take-append-add earlier history h.0) ∙ world-append w earlier (take h.0 history) in
    let sum = length-append earlier history in
    let within = h.1 in
    (length earlier + h.0, omega arith, subst (λ (v : World). reply_to (client_of v client) number ≡ Some reply) (sym same) h.2)
carries_from w earlier history client number told.Past h = subst (λ (v : World). number ≤ below (client_of v client)) (sym (world-append w earlier history)) h

-- a longer front of a longer list begins with the shorter one
front : {A : Type 0} (i j : ℕ) (xs more : List A) → i ≤ j → (rest : List A) × (take j (xs ++ more) ≡ take i xs ++ rest)
front zero j xs more less = (take j (xs ++ more), refl)
front (suc i) j [] more less = (take j more, refl)
front (suc i) zero (x ∷ xs) more less = absurd (no_suc-le-zero less)
front (suc i) (suc j) (x ∷ xs) more less = let shorter = front i j xs more (omega (arith, less)) in (shorter.0, ap (λ ys. x ∷ ys) shorter.1)

-- what is told of a history stays true of a legal one that goes on
told_grows : (w : World) (before : ℕ) (kept history more : List Event) (i j : ℕ) (asked : List Step) (answered : List Answer) → i ≤ j → IsLegal w before (kept ++ (history ++ more)) →
    AllTold w (kept ++ take i history) asked answered → AllTold w (kept ++ take j (history ++ more)) asked answered
told_grows w before kept history more i j asked answered less legal h =
    let all = history ++ more in
    let longer = front i j history more less in
    let same : kept ++ take j all ≡ (kept ++ take i history) ++ longer.0 = ap (λ es. kept ++ es) longer.1 ∙ sym (append_assoc kept (take i history) longer.0) in
    let whole : kept ++ all ≡ (kept ++ take j all) ++ drop j all = ap (λ es. kept ++ es) (sym (take-append-drop j all)) ∙ sym (append_assoc kept (take j all) (drop j all)) in
    let able = (legal_histories_part w before (kept ++ take j all) (drop j all) (subst (IsLegal w before) whole legal)).earlier_is.each_can in
    all_carried w w (kept ++ take i history) (kept ++ take j all) asked answered
    (λ client number t holds. subst (λ es. Holds w es client number t) (sym same)
    (holds_later w (kept ++ take i history) longer.0 client number t (subst (λ es. can_all w es ≡ true) same able) holds)) h

-- ---- one life

module _ (past : Past) (core : Core) (r : Remembers past core) where
  -- what came back and what happened since is one legal history
  legal_whole : IsSound core → IsLegal past.beginning past.before (past.kept ++ core.history)
  legal_whole sound =
      legal_histories_join past.beginning past.before past.kept core.history
      (record {
        earlier_is = r.legal;
        later_is = subst (λ (w : World). IsLegal w (past.before + length past.kept) core.history) r.opening (subst (λ (n : ℕ). IsLegal core.opening n core.history) r.before sound.legal);
      })

  -- the store goes on
  remembers_on : (new : Core) → Onward core new → IsSound new → Remembers past new
  remembers_on new on sound =
      let legal = legal_histories_join past.beginning past.before past.kept new.history
      (record {
        earlier_is = r.legal;
        later_is = subst (λ (w : World). IsLegal w (past.before + length past.kept) new.history) (on.opening ∙ r.opening) (subst (λ (n : ℕ). IsLegal new.opening n new.history) (on.before ∙ r.before) sound.legal);
      }) in
      record {
        opening = on.opening ∙ r.opening;
        before = on.before ∙ r.before;
        legal = r.legal;
        told = subst (λ es. AllTold past.beginning (past.kept ++ take new.durable es) past.steps past.answers) (sym on.grows)
            (told_grows past.beginning past.before past.kept core.history on.more core.durable new.durable past.steps past.answers on.no_fewer
            (subst (λ es. IsLegal past.beginning past.before (past.kept ++ es)) on.grows legal) r.told);
      }

-- steps are run
pub remembers_run : (past : Past) (old new : Core) (asked : List Step) (answered : List Answer) → Onward old new → IsSound new → AllTold new.opening (take new.durable new.history) asked answered →
    Remembers past old → Remembers (with_run past asked answered) new
remembers_run past old new asked answered on sound told r =
    let later = remembers_on past old r new on sound in
    let sure = take new.durable new.history in
    let fresh = all_carried (world past.beginning past.kept) past.beginning sure (past.kept ++ sure) asked answered (carries_from past.beginning past.kept sure)
    (subst (λ (w : World). AllTold w sure asked answered) later.opening told) in
    record {
      opening = later.opening;
      before = later.before;
      legal = later.legal;
      told = all_told_join past.beginning (past.kept ++ sure) past.steps asked past.answers answered later.told fresh;
    }

take-nothing : (n : ℕ) (es : List Event) → es ≡ [] → take n es ≡ []
take-nothing zero es is = refl
take-nothing (suc n) [] is = refl
take-nothing (suc n) (e ∷ es) is = ap (take (suc n)) is

-- some of the history comes back
pub remembers_restart : (past : Past) (old new back : Core) → Remembers past old → Onward old new → IsSound new → (within : OpensWithin new.opening new.before new.history old.durable back) →
    back.history ≡ [] → Remembers (with_kept past (take within.kept new.history)) back
remembers_restart past old new back r on sound within empty =
    let w = past.beginning in
    let k = within.kept in
    let later = remembers_on past old r new on sound in
    let whole = legal_whole past new later sound in
    let front_is = take k new.history in
    let parts : past.kept ++ new.history ≡ (past.kept ++ front_is) ++ drop k new.history =
    ap (λ es. past.kept ++ es) (sym (take-append-drop k new.history)) ∙ sym (append_assoc past.kept front_is (drop k new.history)) in
    let size = length-append past.kept front_is in
    let count = within.count in
    let few = length-take-le k new.history within.none_invented in
    let before = later.before in
    let grown = told_grows w past.before past.kept old.history on.more old.durable k past.steps past.answers within.durable_kept (subst (λ es. IsLegal w past.before (past.kept ++ es)) on.grows whole) r.told in
    let nothing : take back.durable back.history ≡ [] = take-nothing back.durable back.history empty in
    record {
      opening = within.opening ∙ ap (λ (v : World). world v front_is) later.opening ∙ sym (world-append w past.kept front_is);
      before = omega arith;
      legal = (legal_histories_part w past.before (past.kept ++ front_is) (drop k new.history) (subst (IsLegal w past.before) parts whole)).earlier_is;
      told = subst (λ es. AllTold w es past.steps past.answers) (sym (ap (λ es. (past.kept ++ front_is) ++ es) nothing ∙ append-nil (past.kept ++ front_is)))
          (subst (λ es. AllTold w (past.kept ++ take k es) past.steps past.answers) (sym on.grows) grown);
    }

pub comes_back : (past : Past) (old new back : Core) → Remembers past old → Onward old new → IsSound new → OpensWithin new.opening new.before new.history old.durable back →
    back.history ≡ [] → ComesBack past old new back
comes_back past old new back r on sound within empty = record {
  kept = within.kept;
  durable_kept = within.durable_kept;
  none_invented = within.none_invented;
  remembers = remembers_restart past old new back r on sound within empty;
}

-- ---- any number of lives

pub lives_are_remembered : LivesAreRemembered
lives_are_remembered past last core end [] r lives =
    subst (λ (p : Past). Remembers p end) (sym lives.0) (subst (Remembers past) (sym lives.1) r)
lives_are_remembered past last core end (Run asked answered ∷ turns) r lives =
    let run = lives.1 in
    lives_are_remembered (with_run past asked answered) last lives.0 end turns (remembers_run past core lives.0 asked answered run.onward run.sound run.told r) lives.2
lives_are_remembered past last core end (Restart ∷ turns) r lives =
    let turn = lives.2 in
    lives_are_remembered (with_kept past (take turn.within.kept lives.0.history)) last lives.1 end turns
    (remembers_restart past core lives.0 lives.1 r turn.onward turn.sound turn.within (ap (λ (c : Core). c.history) turn.opens)) lives.3

pub present_is_remembered : PresentIsRemembered
present_is_remembered past core r = ap (λ (w : World). world w core.history) r.opening ∙ sym (world-append past.beginning past.kept core.history)

pub beginnings_are_remembered : BeginningsAreRemembered
beginnings_are_remembered core sound = record {
  opening = refl;
  before = omega arith;
  legal = record { events = tt; each_can = refl; in_limit = (let limit = sound.legal.in_limit in omega arith) };
  told = tt;
}
