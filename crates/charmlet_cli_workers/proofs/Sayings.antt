-- What lines print, one after another.
use Rattle.std.proofs.Common.{◌≡◌, ◌||◌, ℕ, Bool, true, false, List, [], ◌∷◌, ◌++◌, inl, inr, ⊎_elim, refl, sym, ap, subst, ◌∙◌, append_assoc, Result, Ok, Err}
use Rattle.std.specs.Prelude.{IfErr}
use Rattle.std.proofs.lemmas.List.{append-nil}
use Rattle.charmlet_model.specs.declared.client.ClientRow.{ClientRow}
use Rattle.charmlet_model.specs.declared.event.Event.{Event}
use Rattle.charmlet_model.specs.declared.names.Elem.{Elem}
use Rattle.charmlet_model.specs.declared.names.MsgId.{MsgId}
use Rattle.charmlet_model.specs.declared.refusal.Refusal.{Refusal}
use Rattle.charmlet_model.specs.declared.step.Answer.{Answer}
use Rattle.charmlet_model.specs.declared.step.Answer.TheVariants as answers
use Rattle.charmlet_model.specs.declared.step.Step.{Step}
use Rattle.charmlet_model.specs.declared.step.Step.TheVariants as steps
use Rattle.charmlet_model.specs.declared.told.Told.{Told}
use Rattle.charmlet_model.specs.Texts.{Text}
use Rattle.charmlet_script.specs.declared.script.Line.{Line}
use Rattle.charmlet_script.specs.declared.script.Line.TheVariants as lines
use Rattle.charmlet_stock.specs.declared.by_kind.ByKind.{ByKind}
use Rattle.charmlet_stock.specs.declared.pile.Tally.{Tally}
use Rattle.charmlet_store.specs.declared.look.Look.{Look}
use Rattle.charmlet_cli_workers.specs.Said.{Answers, Clients, Deeds, IsAccepted, IsDrained, SayInTurn, Says, SaysStep, having_flushed, having_told}

-- all that is known of clients here is known there
pub record KnowsMore (here there : Clients) : Type 0 where
  pub told : (client number : ℕ) (told : Told) → here.told client number told → there.told client number told
  pub accepted : (client number : ℕ) → here.accepted client number → there.accepted client number
  pub earlier : (client number : ℕ) → here.earlier client number → there.earlier client number
  pub durable : (client number : ℕ) → here.durable client number → there.durable client number
  pub refused : (accepts : List Event) (step : Step) (refusal : Refusal) → here.refused accepts step refusal → there.refused accepts step refusal
  pub target : (name : Text) (index : ℕ) (to : Elem) (entry : ℕ) → here.target name index to entry → there.target name index to entry
  pub flushed : (accepts : List Event) (knows : ℕ → ClientRow) (count : ℕ) → here.flushed accepts knows count → there.flushed accepts knows count
  pub sealed : (generation : ℕ) → here.sealed generation → there.sealed generation
  pub pending : (count : ℕ) → here.pending count → there.pending count
  pub pending_ids : (ids : List MsgId) → here.pending_ids ids → there.pending_ids ids
  pub seen : (elem : Elem) (look : Look) → here.seen elem look → there.seen elem look
  pub stood : (elem : Elem) (processor : ℕ) → here.stood elem processor → there.stood elem processor
  pub counted : (census : ByKind Tally) → here.counted census → there.counted census

module _ (here there : Clients) (more : KnowsMore here there) where
  accepted_on : (before : Deeds) (client number : ℕ) (to : Elem) (entry : ℕ) (words : List ℕ) (after : Deeds) → IsAccepted here before client number to entry words after → IsAccepted there before client number to entry words after
  accepted_on before client number to entry words after is =
      ⊎_elim (λ new. inl new) (λ old. inr (old.0, ⊎_elim (λ lines. inl lines) (λ earlier. inr (more.earlier client number earlier)) old.1)) is

  answers_on : (before : Deeds) (answer : Answer) (step : Step) (after : Deeds) → Answers here before answer step after → Answers there before answer step after
  answers_on before (answers.Refused refusal) step after is = (is.0, more.refused before.accepts step refusal is.1, is.2)
  answers_on before (answers.Told told) (steps.Request client number to entry words) after is = ((more.told client number told is.0.0, is.0.1), more.accepted client number is.1, accepted_on (having_told before client number told) client number to entry words after is.2)
  answers_on before (answers.Told told) (steps.Status client number) after is = ((more.told client number told is.0.0, is.0.1), is.1)
  answers_on before (answers.Told told) (steps.Deliver processor id) after is = absurd is
  answers_on before (answers.Told told) (steps.Move elem processor) after is = absurd is
  answers_on before (answers.Told told) steps.Flush after is = absurd is
  answers_on before (answers.Told told) steps.Checkpoint after is = absurd is
  answers_on before (answers.Delivered id) step after is = absurd is
  answers_on before (answers.Moved moved place) (steps.Move elem processor) after is = (is.0, is.1, more.stood elem processor is.2, is.3)
  answers_on before (answers.Flushed durable) steps.Flush after is = ((λ client number some last. more.durable client number (is.0 client number some last)), more.flushed before.accepts (having_flushed before).knows durable is.1, is.2)
  answers_on before (answers.Checkpointed generation) steps.Checkpoint after is = (more.sealed generation is.0, is.1)
  answers_on before (answers.Moved elem processor) (steps.Request client number to entry words) after is = absurd is
  answers_on before (answers.Moved elem processor) (steps.Status client number) after is = absurd is
  answers_on before (answers.Moved elem processor) (steps.Deliver place id) after is = absurd is
  answers_on before (answers.Moved elem processor) steps.Flush after is = absurd is
  answers_on before (answers.Moved elem processor) steps.Checkpoint after is = absurd is
  answers_on before (answers.Flushed durable) (steps.Request client number to entry words) after is = absurd is
  answers_on before (answers.Flushed durable) (steps.Status client number) after is = absurd is
  answers_on before (answers.Flushed durable) (steps.Deliver processor id) after is = absurd is
  answers_on before (answers.Flushed durable) (steps.Move elem processor) after is = absurd is
  answers_on before (answers.Flushed durable) steps.Checkpoint after is = absurd is
  answers_on before (answers.Checkpointed generation) (steps.Request client number to entry words) after is = absurd is
  answers_on before (answers.Checkpointed generation) (steps.Status client number) after is = absurd is
  answers_on before (answers.Checkpointed generation) (steps.Deliver processor id) after is = absurd is
  answers_on before (answers.Checkpointed generation) (steps.Move elem processor) after is = absurd is
  answers_on before (answers.Checkpointed generation) steps.Flush after is = absurd is

  step_on : (before : Deeds) (step : Step) (texts : List Text) (after : Deeds) → SaysStep here before step texts after → SaysStep there before step texts after
  step_on before step texts after said = (said.0, answers_on before said.0 step after said.1, said.2)

  drained_on : (turns : ℕ) (before after : Deeds) (texts : List Text) → IsDrained here turns before after texts → IsDrained there turns before after texts
  drained_on turns before after texts is = record {
    count = is.count;
    delivered = is.delivered;
    accepts = is.accepts;
    knows = is.knows;
    drained = is.drained;
    counts = is.counts;
    left = more.pending is.drained.left is.left;
    refusal = is.refusal;
    known = is.known;
    texts_are = is.texts_are;
  }

  pub said_on : (before : Deeds) (line : Line) (texts : List Text) (after : Deeds) → Says here before line texts after → Says there before line texts after
  said_on before (lines.Step step) texts after said = step_on before step texts after said
  said_on before (lines.Call client number name index words) texts after said =
      (said.0, said.1, more.target name index (record { array = said.0; index = index }) said.1 said.2, step_on before (steps.Request client number (record { array = said.0; index = index }) said.1 words) texts after said.3)
  said_on before (lines.Supply kind count) texts after said = said
  said_on before (lines.Drain count) texts after said = drained_on count before after texts said
  said_on before (lines.State elem) texts after said = (⊎_elim (λ seen. inl (seen.0, more.seen elem seen.0 seen.1, seen.2)) (λ refused. inr refused) said.0, said.1)
  said_on before lines.Pending texts after said = (⊎_elim (λ ids. inl (ids.0, more.pending_ids ids.0 ids.1, ids.2)) (λ refused. inr refused) said.0, said.1)
  said_on before lines.Census texts after said = ((said.0.0, more.counted said.0.0 said.0.1, said.0.2, said.0.3), said.1)

  pub said_all_on : (first : Deeds) (lines : List Line) (texts : List Text) (last : Deeds) → SayInTurn here first lines texts last → SayInTurn there first lines texts last
  said_all_on first [] texts last said = said
  said_all_on first (line ∷ lines) texts last said = (said.0, said.1, said.2, said_on first line said.1 said.0 said.3, said_all_on said.0 lines said.2 last said.4, said.5)

-- one more line
pub said_more : (clients : Clients) (first : Deeds) (lines : List Line) (mid : Deeds) (line : Line) (last : Deeds) (texts printed : List Text) → SayInTurn clients first lines texts mid → Says clients mid line printed last →
    SayInTurn clients first (lines ++ line ∷ []) (texts ++ printed) last
said_more clients first [] mid line last texts printed all said =
    (last, printed, [], subst (λ (d : Deeds). Says clients d line printed last) all.1 said, (refl, refl), ap (λ ts. ts ++ printed) all.0 ∙ sym (append-nil printed))
said_more clients first (l ∷ lines) mid line last texts printed all said =
    (all.0, all.1, all.2 ++ printed, all.3, said_more clients all.0 lines mid line last all.2 printed all.4 said, ap (λ ts. ts ++ printed) all.5 ∙ append_assoc all.1 all.2 printed)

-- ---- refusals

-- one or another
or_left : (a b : Bool) → a ≡ true → (a || b) ≡ true
or_left true b is = refl
or_left false b is = let never : ⊥ = cc in absurd never

or_right : (a b : Bool) → b ≡ true → (a || b) ≡ true
or_right true b is = refl
or_right false b is = is

pub refused_one : {T : Type 0} (p q : Refusal → Bool) (r : Result T Refusal) → IfErr r (λ refusal. p refusal ≡ true) → IfErr r (λ refusal. (p refusal || q refusal) ≡ true)
refused_one p q (Ok x) is = tt
refused_one p q (Err refusal) is = or_left (p refusal) (q refusal) is

pub refused_other : (p q : Refusal → Bool) (refusal : Refusal) → q refusal ≡ true → (p refusal || q refusal) ≡ true
refused_other p q refusal is = or_right (p refusal) (q refusal) is
