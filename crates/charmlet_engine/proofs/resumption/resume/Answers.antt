use Rattle.std.proofs.Common.{◌≡◌, true, false, IfOk, refl, sym, ap, subst, ◌∙◌}
use Rattle.charmlet_model.specs.Core.{Core}
use Rattle.charmlet_model.specs.Run.{StoreView}
use Rattle.charmlet_history.specs.Kept.{core_in}
use Rattle.charmlet_persist.specs.Writes.Rest.{GoesOn, IsKept}
use Rattle.charmlet_recover.specs.Restart.{AnswersBy}
use Rattle.charmlet_engine.specs.Engine.{core_of}
use Rattle.charmlet_engine.specs.Outcomes.{is_lawful_now}
use Rattle.charmlet_engine.specs.Restarted.{core_or_refusal, going_refusal, gone_on}
use Rattle.charmlet_engine.proofs.Lawful.{lawful_now}
use Rattle.charmlet_engine.proofs.resumption.resume.Goals as goal

pub invariant_of-result : goal.invariant_of-result
invariant_of-result g c =
    let halves = c.args.halves in
    let dropped = c.drop_retired.ensures in
    let core : core_in c.drop_retired.new.self.history ≡ core_in c.args.store.history = ap (λ (v : StoreView). v.core) dropped.same in
    record {
      dropping = dropped.dropping;
      agrees = λ _. subst (λ (k : Core). GoesOn {G = g.D.Disk} k halves) (sym core) c.requires.goes_on;
      keeps = λ honest. subst (λ (k : Core). IsKept {G = g.D.Disk} k halves) (sym core) (c.requires.keeps honest);
      current = λ honest _. c.requires.current honest c.if-is_current.true;
    }

pub returns-then-is_current : goal.returns-then-is_current
returns-then-is_current g c =
    let old = core_in c.args.store.history in
    let dropped = c.drop_retired.ensures in
    let current = c.if-is_current.true in
    let core : core_in c.drop_retired.new.self.history ≡ old = ap (λ (v : StoreView). v.core) dropped.same in
    record {
      core = core ∙ ap (λ b. gone_on b old) (sym current);
      blanks = ap (λ (v : StoreView). v.blanks) dropped.same;
      supplied = dropped.supplied;
      stays = λ _. record { disk = refl; half = refl; log_end = refl };
      image = λ honest none. (let no : true ≡ false = sym current ∙ none in absurd cc);
      now = λ honest o left. subst (λ (k : Core). is_lawful_now k o) (sym core) (lawful_now {G = g.D.Disk} old c.args.halves (c.requires.keeps honest) o left);
      settled = λ honest. (c.args.halves.ready honest c.requires.goes_on.going).settled;
      answer = ap (λ b. going_refusal b old) current;
      back = tt;
      kept = tt;
      refused = tt;
      stored = λ honest none. (let no : true ≡ false = sym current ∙ none in absurd cc);
      disk = record { honest = ((λ h. h), (λ h. h)); counted = refl };
    }

pub returns-clause-core : goal.returns-clause-core
returns-clause-core g c =
    subst (λ b. IfOk c.renew.result (λ engine. core_of engine ≡ gone_on b (core_in c.args.store.history))) (sym c.if-is_current.false) c.renew.ensures.core

pub returns-clause-stays : goal.returns-clause-stays
returns-clause-stays g c = λ current. (let no : true ≡ false = sym current ∙ c.if-is_current.false in absurd cc)

pub returns-clause-answer : goal.returns-clause-answer
returns-clause-answer g c =
    subst (λ b. AnswersBy (going_refusal b (core_in c.args.store.history)) (core_or_refusal c.renew.result)) (sym c.if-is_current.false) c.renew.ensures.answer
