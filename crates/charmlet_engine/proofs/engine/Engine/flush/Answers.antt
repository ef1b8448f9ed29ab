use Rattle.std.proofs.Common.{subst, sym}
use Rattle.charmlet_model.specs.declared.step.Answer.TheVariants as answers
use Rattle.charmlet_model.specs.declared.step.Step.TheVariants as steps
use Rattle.charmlet_model.specs.Run.{Does}
use Rattle.charmlet_model.specs.Sound.{IsSound}
use Rattle.charmlet_history.specs.Kept.{core_in, counts_or_refused}
use Rattle.charmlet_stock.specs.Stock.{blanks_in}
use Rattle.charmlet_store.specs.Together as stores
use Rattle.charmlet_engine.specs.Engine.{EngineShown, core_of, view_of}
use Rattle.charmlet_engine.specs.Together.{shown_by}
use Rattle.charmlet_engine.proofs.Advancing.{advances_written}
use Rattle.charmlet_engine.proofs.Fitting.{flushed_fit}
use Rattle.charmlet_engine.proofs.Onward.{onward_flush}
use Rattle.charmlet_engine.proofs.Tied.{tied_inside, view_inside}
use Rattle.charmlet_engine.proofs.engine.Engine.flush.Goals as goal

pub invariant_of-self-inside : goal.invariant_of-self-inside
invariant_of-self-inside g c =
    let its = c.self-inside.inside.0.0 in
    flushed_fit its.history its.shelves.items its.stock c.self-inside.invariant c.flush.new.history (counts_or_refused c.flush.result) (c.flush.ensures.steps (λ _. 0))

pub invariant_of-self : goal.invariant_of-self
invariant_of-self g c =
    let its = c.self-inside.inside.0.0 in
    let halves = c.self-inside.inside.0.1.0 in
    let tied = tied_inside c.self.inside its.history its.stock halves c.self-inside.view_is c.self.invariant in
    let done = c.flush.ensures in
    record {
      dropping = tied.dropping;
      agrees = done.agrees;
      keeps = λ honest. done.kept (done.disk.honest.1 honest);
      current = λ honest. done.current (done.disk.honest.1 honest);
    }

pub returns-in-Ok-clause-does : goal.returns-in-Ok-clause-does
returns-in-Ok-clause-does g c =
    let its = c.self-inside.inside.0.0 in
    let halves = c.self-inside.inside.0.1.0 in
    let view_is = view_inside c.self.inside its.history its.stock halves c.self-inside.view_is c.args.self.now c.self.view_is in
    subst (λ (e : EngineShown g.row.D.Denot). Does (view_of e) steps.Flush (answers.Flushed c.in-Ok.durable) (view_of (shown_by (stores.shown_by c.flush.new.history its.stock) c.flush.new.halves))) view_is
    (c.in-Ok.ensures.steps (blanks_in its.stock))

pub returns-in-Ok-clause-advances : goal.returns-in-Ok-clause-advances
returns-in-Ok-clause-advances g c =
    let its = c.self-inside.inside.0.0 in
    let halves = c.self-inside.inside.0.1.0 in
    let view_is = view_inside c.self.inside its.history its.stock halves c.self-inside.view_is c.args.self.now c.self.view_is in
    let sound = subst (λ (e : EngineShown g.row.D.Denot). IsSound (core_of e)) (sym view_is) c.facts.ensures.sound in
    let done = c.flush.ensures in
    advances_written g.D.Disk (stores.shown_by its.history its.stock) (stores.shown_by c.flush.new.history its.stock) halves c.flush.new.halves
    (onward_flush (core_in its.history) (λ _. 0) _ sound.durable (done.steps (λ _. 0))) done.any_moment done.disk.honest c.args.self.now view_is

pub returns-in-Err-clause-does : goal.returns-in-Err-clause-does
returns-in-Err-clause-does g c =
    let its = c.self-inside.inside.0.0 in
    let halves = c.self-inside.inside.0.1.0 in
    let view_is = view_inside c.self.inside its.history its.stock halves c.self-inside.view_is c.args.self.now c.self.view_is in
    subst (λ (e : EngineShown g.row.D.Denot). Does (view_of e) steps.Flush (answers.Refused c.in-Err.refusal) (view_of (shown_by (stores.shown_by c.flush.new.history its.stock) c.flush.new.halves))) view_is
    (c.in-Err.ensures.steps (blanks_in its.stock))

pub returns-in-Err-clause-advances : goal.returns-in-Err-clause-advances
returns-in-Err-clause-advances g c =
    let its = c.self-inside.inside.0.0 in
    let halves = c.self-inside.inside.0.1.0 in
    let view_is = view_inside c.self.inside its.history its.stock halves c.self-inside.view_is c.args.self.now c.self.view_is in
    let sound = subst (λ (e : EngineShown g.row.D.Denot). IsSound (core_of e)) (sym view_is) c.facts.ensures.sound in
    let done = c.flush.ensures in
    advances_written g.D.Disk (stores.shown_by its.history its.stock) (stores.shown_by c.flush.new.history its.stock) halves c.flush.new.halves
    (onward_flush (core_in its.history) (λ _. 0) _ sound.durable (done.steps (λ _. 0))) done.any_moment done.disk.honest c.args.self.now view_is
