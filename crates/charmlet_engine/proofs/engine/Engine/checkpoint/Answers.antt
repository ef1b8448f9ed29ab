use Rattle.std.proofs.Common.{◌≡◌, false, subst, sym}
use Rattle.charmlet_model.specs.declared.step.Answer.TheVariants as answers
use Rattle.charmlet_model.specs.declared.step.Step.TheVariants as steps
use Rattle.charmlet_model.specs.Run.{Does}
use Rattle.charmlet_model.specs.Sound.{IsSound}
use Rattle.charmlet_disk.specs.Disk.{LeavesOnly}
use Rattle.charmlet_halves.specs.Halves.{disk_of}
use Rattle.charmlet_history.specs.Kept.{core_in}
use Rattle.charmlet_stock.specs.Stock.{blanks_in}
use Rattle.charmlet_store.specs.Together as stores
use Rattle.charmlet_engine.specs.Engine.{EngineShown, core_of, view_of}
use Rattle.charmlet_engine.specs.Outcomes.{IsOldOrImage}
use Rattle.charmlet_engine.specs.Together.{shown_by}
use Rattle.charmlet_engine.proofs.Advancing.{advances_written}
use Rattle.charmlet_engine.proofs.Lawful.{leaves_image}
use Rattle.charmlet_engine.proofs.Onward.{onward_checkpoint}
use Rattle.charmlet_engine.proofs.Tied.{taken_current, tied_inside, view_inside}
use Rattle.charmlet_engine.proofs.engine.Engine.checkpoint.Goals as goal

pub invariant_of-self : goal.invariant_of-self
invariant_of-self g c =
    let its = c.self-inside.inside.0.0 in
    let halves = c.self-inside.inside.0.1.0 in
    let old = stores.shown_by its.history its.stock in
    let tied = tied_inside c.self.inside its.history its.stock halves c.self-inside.view_is c.self.invariant in
    let taken = c.checkpoint-taken in
    let done = taken.ensures in
    record {
      dropping = tied.dropping;
      agrees = done.agrees;
      keeps = λ honest. done.kept (done.disk.honest.1 honest);
      current = taken_current {G = g.D.Disk} old halves tied taken.new.history taken.new.halves taken.result done.current done.refused done.device done.agrees done.disk.honest.1;
    }

pub returns-in-Ok-clause-does : goal.returns-in-Ok-clause-does
returns-in-Ok-clause-does g c =
    let its = c.self-inside.inside.0.0 in
    let halves = c.self-inside.inside.0.1.0 in
    let view_is = view_inside c.self.inside its.history its.stock halves c.self-inside.view_is c.args.self.now c.self.view_is in
    subst (λ (e : EngineShown g.row.D.Denot). Does (view_of e) steps.Checkpoint (answers.Checkpointed c.in-Ok.generation) (view_of (shown_by (stores.shown_by c.checkpoint-taken.new.history its.stock) c.checkpoint-taken.new.halves))) view_is
    (c.in-Ok.ensures.steps (blanks_in its.stock))

pub returns-in-Ok-clause-advances : goal.returns-in-Ok-clause-advances
returns-in-Ok-clause-advances g c =
    let its = c.self-inside.inside.0.0 in
    let halves = c.self-inside.inside.0.1.0 in
    let view_is = view_inside c.self.inside its.history its.stock halves c.self-inside.view_is c.args.self.now c.self.view_is in
    let sound = subst (λ (e : EngineShown g.row.D.Denot). IsSound (core_of e)) (sym view_is) c.facts.ensures.sound in
    let done = c.checkpoint-taken.ensures in
    advances_written g.D.Disk (stores.shown_by its.history its.stock) (stores.shown_by c.checkpoint-taken.new.history its.stock) halves c.checkpoint-taken.new.halves
    (onward_checkpoint (core_in its.history) (λ _. 0) _ sound.durable (done.steps (λ _. 0))) done.any_moment done.disk.honest c.args.self.now view_is

pub returns-in-Ok-clause-stored : goal.returns-in-Ok-clause-stored
returns-in-Ok-clause-stored g c =
    let its = c.self-inside.inside.0.0 in
    let halves = c.self-inside.inside.0.1.0 in
    let view_is = view_inside c.self.inside its.history its.stock halves c.self-inside.view_is c.args.self.now c.self.view_is in
    let next = disk_of c.checkpoint-taken.new.halves in
    subst (λ (e : EngineShown g.row.D.Denot). g.D.Disk.honest e.disk → (core_of e).halted ≡ false → LeavesOnly g.D.Disk.moment g.D.Disk.since e.disk next (IsOldOrImage (core_of e))) view_is
    (λ honest going. leaves_image g.D.Disk (core_in its.history) (disk_of halves) next (c.checkpoint-taken.ensures.stored honest going))

pub returns-in-Err-clause-does : goal.returns-in-Err-clause-does
returns-in-Err-clause-does g c =
    let its = c.self-inside.inside.0.0 in
    let halves = c.self-inside.inside.0.1.0 in
    let view_is = view_inside c.self.inside its.history its.stock halves c.self-inside.view_is c.args.self.now c.self.view_is in
    subst (λ (e : EngineShown g.row.D.Denot). Does (view_of e) steps.Checkpoint (answers.Refused c.in-Err.refusal) (view_of (shown_by (stores.shown_by c.checkpoint-taken.new.history its.stock) c.checkpoint-taken.new.halves))) view_is
    (c.in-Err.ensures.steps (blanks_in its.stock))

pub returns-in-Err-clause-advances : goal.returns-in-Err-clause-advances
returns-in-Err-clause-advances g c =
    let its = c.self-inside.inside.0.0 in
    let halves = c.self-inside.inside.0.1.0 in
    let view_is = view_inside c.self.inside its.history its.stock halves c.self-inside.view_is c.args.self.now c.self.view_is in
    let sound = subst (λ (e : EngineShown g.row.D.Denot). IsSound (core_of e)) (sym view_is) c.facts.ensures.sound in
    let done = c.checkpoint-taken.ensures in
    advances_written g.D.Disk (stores.shown_by its.history its.stock) (stores.shown_by c.checkpoint-taken.new.history its.stock) halves c.checkpoint-taken.new.halves
    (onward_checkpoint (core_in its.history) (λ _. 0) _ sound.durable (done.steps (λ _. 0))) done.any_moment done.disk.honest c.args.self.now view_is

pub returns-in-Err-clause-stored : goal.returns-in-Err-clause-stored
returns-in-Err-clause-stored g c =
    let its = c.self-inside.inside.0.0 in
    let halves = c.self-inside.inside.0.1.0 in
    let view_is = view_inside c.self.inside its.history its.stock halves c.self-inside.view_is c.args.self.now c.self.view_is in
    let next = disk_of c.checkpoint-taken.new.halves in
    subst (λ (e : EngineShown g.row.D.Denot). g.D.Disk.honest e.disk → (core_of e).halted ≡ false → LeavesOnly g.D.Disk.moment g.D.Disk.since e.disk next (IsOldOrImage (core_of e))) view_is
    (λ honest going. leaves_image g.D.Disk (core_in its.history) (disk_of halves) next (c.checkpoint-taken.ensures.stored honest going))
