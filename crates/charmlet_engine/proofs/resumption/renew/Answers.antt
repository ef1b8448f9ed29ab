use Rattle.std.proofs.Common.{◌≡◌, ℕ, false, Result, Ok, Err, sym, ap, subst, ◌∙◌}
use Rattle.charmlet_model.specs.declared.refusal.Refusal.{Refusal}
use Rattle.charmlet_model.specs.Core.{Core}
use Rattle.charmlet_model.specs.Run.{StoreView}
use Rattle.charmlet_history.specs.Kept.{core_in}
use Rattle.charmlet_persist.specs.Writes.Rest.{Agrees, IsKept}
use Rattle.charmlet_store.specs.Store.{StoreShown, blanks_of, supplied_in}
use Rattle.charmlet_store.specs.Together as stores
use Rattle.charmlet_replay.proofs.OpenHalves.{supplied_back, unused_back}
use Rattle.charmlet_recover.specs.Restart.{AnswersBy}
use Rattle.charmlet_engine.specs.Outcomes.{is_lawful_now}
use Rattle.charmlet_engine.specs.Restarted.{IsOpenedOn, going_refusal}
use Rattle.charmlet_engine.proofs.Fitting.{imaged_fit}
use Rattle.charmlet_engine.proofs.Lawful.{lawful_now}
use Rattle.charmlet_engine.proofs.Renewed.{image_answers, refused_alike}
use Rattle.charmlet_engine.proofs.Tied.{same_items}
use Rattle.charmlet_engine.proofs.resumption.renew.Goals as goal

pub invariant_of-store : goal.invariant_of-store
invariant_of-store g c =
    let its = c.store.inside in
    imaged_fit its.history its.shelves.items its.stock c.store.invariant c.checkpoint-taken.new.history c.checkpoint-taken.new.shelves _ (c.checkpoint-taken.ensures.same ∙ c.as_mut_slice-shelves.ensures.value)
    (ap (λ v. v.items) (same_items its.shelves c.checkpoint-taken.new.shelves (c.checkpoint-taken.ensures.same ∙ c.as_mut_slice-shelves.ensures.value))) c.checkpoint-taken.ensures.shown

pub invariant_of-store-in-Err : goal.invariant_of-store-in-Err
invariant_of-store-in-Err g c =
    let its = c.store.inside in
    imaged_fit its.history its.shelves.items its.stock c.store.invariant c.checkpoint-taken.new.history c.checkpoint-taken.new.shelves _ (c.checkpoint-taken.ensures.same ∙ c.as_mut_slice-shelves.ensures.value)
    (ap (λ v. v.items) (same_items its.shelves c.checkpoint-taken.new.shelves (c.checkpoint-taken.ensures.same ∙ c.as_mut_slice-shelves.ensures.value))) c.checkpoint-taken.ensures.shown

pub invariant_of-result : goal.invariant_of-result
invariant_of-result g c =
    let done = c.in-Ok.ensures in
    let halves = c.checkpoint-taken.new.halves in
    let dropped = c.drop_retired.ensures in
    let core : core_in c.drop_retired.new.self.history ≡ core_in c.checkpoint-taken.new.history = ap (λ (v : StoreView). v.core) dropped.same in
    record {
      dropping = dropped.dropping;
      agrees = subst (λ (k : Core). Agrees {G = g.D.Disk} k halves) (sym core) done.agrees;
      keeps = λ honest. subst (λ (k : Core). IsKept {G = g.D.Disk} k halves) (sym core) (done.kept (done.disk.honest.1 honest));
      current = λ honest _. done.current (done.disk.honest.1 honest);
    }

pub returns-in-Ok-clause-blanks : goal.returns-in-Ok-clause-blanks
returns-in-Ok-clause-blanks g c = ap (λ (v : StoreView). v.blanks) c.drop_retired.ensures.same ∙ ap blanks_of c.store.view_is

pub returns-in-Ok-clause-supplied : goal.returns-in-Ok-clause-supplied
returns-in-Ok-clause-supplied g c = c.drop_retired.ensures.supplied ∙ ap supplied_in c.store.view_is

pub returns-in-Ok-clause-now : goal.returns-in-Ok-clause-now
returns-in-Ok-clause-now g c = λ honest o left.
    let core : core_in c.drop_retired.new.self.history ≡ core_in c.checkpoint-taken.new.history = ap (λ (v : StoreView). v.core) c.drop_retired.ensures.same in
    subst (λ (k : Core). is_lawful_now k o) (sym core) (lawful_now {G = g.D.Disk} (core_in c.checkpoint-taken.new.history) c.checkpoint-taken.new.halves (c.checkpoint-taken.ensures.kept honest) o left)

pub returns-in-Ok-clause-settled : goal.returns-in-Ok-clause-settled
returns-in-Ok-clause-settled g c = λ honest.
    let opens = subst (λ (s : StoreShown). IsOpenedOn (core_in s.history).processors (core_in s.history)) (sym c.store.view_is) c.requires.opens in
    let done = c.checkpoint-taken.ensures in
    let going = (done.agrees (ap (λ (k : Core). k.halted) c.in-Ok.ensures.sealed ∙ ap (λ (k : Core). k.halted) opens)).going in
    (c.checkpoint-taken.new.halves.ready (done.disk.honest.0 honest) going).settled

pub returns-in-Ok-clause-answer : goal.returns-in-Ok-clause-answer
returns-in-Ok-clause-answer g c =
    let its = c.store.inside in
    let opens = subst (λ (s : StoreShown). IsOpenedOn (core_in s.history).processors (core_in s.history)) (sym c.store.view_is) c.requires.opens in
    let old = core_in its.history in
    let answered = image_answers old.processors old opens (λ _. 0) (core_in c.checkpoint-taken.new.history) c.checkpoint-taken.result (c.checkpoint-taken.ensures.steps (λ _. 0)) in
    subst (λ (s : StoreShown). AnswersBy {X = Core} (going_refusal false (core_in s.history)) (Ok (core_in c.drop_retired.new.self.history))) c.store.view_is
    (subst (λ (r : Result ℕ Refusal). AnswersBy {X = ℕ} (going_refusal false old) r) c.in-Ok.is answered)

pub returns-in-Err-clause-answer : goal.returns-in-Err-clause-answer
returns-in-Err-clause-answer g c =
    let its = c.store.inside in
    let opens = subst (λ (s : StoreShown). IsOpenedOn (core_in s.history).processors (core_in s.history)) (sym c.store.view_is) c.requires.opens in
    let old = core_in its.history in
    let answered = image_answers old.processors old opens (λ _. 0) (core_in c.checkpoint-taken.new.history) c.checkpoint-taken.result (c.checkpoint-taken.ensures.steps (λ _. 0)) in
    subst (λ (s : StoreShown). AnswersBy {X = Core} (going_refusal false (core_in s.history)) (Err c.in-Err.refusal)) c.store.view_is
    (refused_alike ℕ Core (going_refusal false old) c.in-Err.refusal (subst (λ (r : Result ℕ Refusal). AnswersBy {X = ℕ} (going_refusal false old) r) c.in-Err.is answered))

pub returns-in-Err-clause-back : goal.returns-in-Err-clause-back
returns-in-Err-clause-back g c = unused_back c.take_back.result (supplied_in (stores.shown_by c.checkpoint-taken.new.history c.store.inside.stock)) c.take_back.ensures.tally c.take_back.ensures.keeping

pub returns-in-Err-clause-kept : goal.returns-in-Err-clause-kept
returns-in-Err-clause-kept g c =
    supplied_back c.take_back.result (supplied_in (stores.shown_by c.checkpoint-taken.new.history c.store.inside.stock)) c.take_back.ensures.tally ∙ ap supplied_in c.store.view_is
