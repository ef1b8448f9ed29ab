use Rattle.std.proofs.Common.{◌≡◌, ◌⊎◌, [], List, ℕ, map, refl, sym, subst}
use Rattle.charmlet_model.specs.declared.step.Answer.{Answer}
use Rattle.charmlet_model.specs.declared.step.Answer.TheVariants as answers
use Rattle.charmlet_model.specs.declared.step.Step.{Step}
use Rattle.charmlet_model.specs.declared.step.Step.TheVariants as steps
use Rattle.charmlet_history.specs.declared.request.Request.{Request}
use Rattle.charmlet_leases.specs.Passes.Passes.{HeldPass, accepts_in, with_flush}
use Rattle.charmlet_cli_workers.specs.Heard.{AreAccepted, AreLater, AreTidy, IsDoneBy, IsRecorded, known_by}
use Rattle.charmlet_cli_workers.specs.Said.{Answers, having_flushed}
use Rattle.charmlet_cli_workers.proofs.Asking.{accepts_flushed, flushed_durable, stated_answers, tidy_flushed, told_answers, were_flushed}
use Rattle.charmlet_cli_workers.proofs.Hearing.{flushed_by, flushed_passes, same_passes}
use Rattle.charmlet_cli_workers.proofs.Knowing.{done_flushed}
use Rattle.charmlet_cli_workers.proofs.lines.answer_to.Goals as goal

pub returns-in-Ok-clause-later : goal.returns-in-Ok-clause-later
returns-in-Ok-clause-later g c = same_passes c.args.clients.now.passes.items

pub returns-in-Err-clause-later : goal.returns-in-Err-clause-later
returns-in-Err-clause-later g c = same_passes c.args.clients.now.passes.items

pub returns-in-Ok-checkpoint-clause-later : goal.returns-in-Ok-checkpoint-clause-later
returns-in-Ok-checkpoint-clause-later g c = same_passes c.args.clients.now.passes.items

pub returns-in-Err-checkpoint-clause-later : goal.returns-in-Err-checkpoint-clause-later
returns-in-Err-checkpoint-clause-later g c = same_passes c.args.clients.now.passes.items

pub returns-in-Ok-flush-clause-later : goal.returns-in-Ok-flush-clause-later
returns-in-Ok-flush-clause-later g c = subst (AreLater c.args.clients.now.passes.items) (sym c.in-Ok-flush.ensures.told) (flushed_passes c.in-Ok-flush.durable c.args.clients.now.passes.items c.in-Ok-flush.ensures.rising)

pub returns-in-Err-flush-clause-later : goal.returns-in-Err-flush-clause-later
returns-in-Err-flush-clause-later g c = subst (AreLater c.args.clients.now.passes.items) (sym c.in-Err-flush.ensures.untold) (same_passes c.args.clients.now.passes.items)

pub returns-in-Request-clause-answers : goal.returns-in-Request-clause-answers
returns-in-Request-clause-answers g c = λ named lists before done.
    let old = c.args.clients.now.passes.items in
    let new = c.request.new.self.passes.items in
    let clients = known_by c.args.runtime.now named new in
    let asked = c.in-Request in
    let request : Request = record { number = asked.number; to = asked.to; entry = asked.entry; words = c.as_slice.result } in
    let words : c.as_slice.result.now ≡ asked.words = c.as_slice.ensures in
    let did = told_answers c.args.runtime.now named old new lists before asked.client request c.request.result done c.request.ensures.asked c.request.ensures.unasked c.request.ensures.told c.request.ensures.untold c.request.ensures.heard c.request.ensures.reached c.request.ensures.err c.request.ensures.cause in
    let after = did.0 in
    let told = subst (λ (a : Answer). Answers clients before a (steps.Request asked.client asked.number asked.to asked.entry c.as_slice.result.now) after) (sym c.told_answer.ensures) did.2 in
    let so = subst (λ (ws : List ℕ). Answers clients before c.told_answer.result (steps.Request asked.client asked.number asked.to asked.entry ws) after) words told in
    (after, did.1, subst (λ (step : Step). Answers clients before c.told_answer.result step after) (sym asked.is) so)

pub returns-in-Status-clause-answers : goal.returns-in-Status-clause-answers
returns-in-Status-clause-answers g c = λ named lists before done.
    let old = c.args.clients.now.passes.items in
    let new = c.status.new.self.passes.items in
    let clients = known_by c.args.runtime.now named new in
    let asked = c.in-Status in
    let did = stated_answers c.args.runtime.now named old new lists before asked.client asked.number c.status.result done c.status.ensures.accepted c.status.ensures.told c.status.ensures.untold c.status.ensures.heard c.status.ensures.err c.status.ensures.cause in
    let after = did.0 in
    let told = subst (λ (a : Answer). Answers clients before a (steps.Status asked.client asked.number) after) (sym c.told_answer-in-Status.ensures) did.2 in
    (after, did.1, subst (λ (step : Step). Answers clients before c.told_answer-in-Status.result step after) (sym asked.is) told)

pub returns-in-Ok-clause-answers : goal.returns-in-Ok-clause-answers
returns-in-Ok-clause-answers g c = λ named lists before done.
    let move = c.in-Move in
    let clients = known_by c.args.runtime.now named c.args.clients.now.passes.items in
    (before, done, subst (λ (step : Step). Answers clients before (answers.Moved move.elem move.processor) step before) (sym move.is) (refl, refl, c.in-Ok.ensures.moved, refl))

pub returns-in-Err-clause-answers : goal.returns-in-Err-clause-answers
returns-in-Err-clause-answers g c = λ named lists before done.
    let clients = known_by c.args.runtime.now named c.args.clients.now.passes.items in
    (before, done, subst (λ (step : Step). Answers clients before (answers.Refused c.in-Err.refusal) step before) (sym c.in-Move.is) (c.in-Err.ensures.err, c.in-Err.ensures.cause, refl))

pub returns-in-Ok-flush-clause-answers : goal.returns-in-Ok-flush-clause-answers
returns-in-Ok-flush-clause-answers g c = λ named lists before done.
    let old = c.args.clients.now.passes.items in
    let new = c.flush.new.self.passes.items in
    let clients = known_by c.args.runtime.now named new in
    let count = c.in-Ok-flush.durable in
    let told : new ≡ map (with_flush count) old = c.in-Ok-flush.ensures.told in
    let same = subst (AreAccepted old) (sym told) (accepts_flushed count old) in
    let durable = flushed_durable count c.args.runtime.now named old new lists before told c.requires.tidy.counted done in
    let after = having_flushed before in
    let did = subst (λ (ps : List HeldPass). IsDoneBy ps lists after) (sym told) (done_flushed count old lists before c.requires.tidy.counted done) in
    let counted = were_flushed c.args.runtime.now old new lists before after count same done did c.in-Ok-flush.ensures.flushed in
    let kept = subst (λ (ps : List HeldPass). ((client : ℕ) → accepts_in client before.accepts ≡ []) ⊎ IsRecorded ps count) (sym told) (flushed_by count old before.accepts done.accepts) in
    (after, did, subst (λ (step : Step). Answers clients before (answers.Flushed count) step after) (sym c.in-Flush.is) (durable, (counted, kept), refl))

pub returns-in-Err-flush-clause-answers : goal.returns-in-Err-flush-clause-answers
returns-in-Err-flush-clause-answers g c = λ named lists before done.
    let clients = known_by c.args.runtime.now named c.flush.new.self.passes.items in
    (before, subst (λ (ps : List HeldPass). IsDoneBy ps lists before) (sym c.in-Err-flush.ensures.untold) done, subst (λ (step : Step). Answers clients before (answers.Refused c.in-Err-flush.refusal) step before) (sym c.in-Flush.is) (c.in-Err-flush.ensures.err, tt, refl))

pub returns-in-Ok-checkpoint-clause-answers : goal.returns-in-Ok-checkpoint-clause-answers
returns-in-Ok-checkpoint-clause-answers g c = λ named lists before done.
    let clients = known_by c.args.runtime.now named c.args.clients.now.passes.items in
    (before, done, subst (λ (step : Step). Answers clients before (answers.Checkpointed c.in-Ok-checkpoint.generation) step before) (sym c.in-Checkpoint.is) ((c.in-Ok-checkpoint.ensures.ok, c.in-Ok-checkpoint.ensures.sealed), refl))

pub returns-in-Err-checkpoint-clause-answers : goal.returns-in-Err-checkpoint-clause-answers
returns-in-Err-checkpoint-clause-answers g c = λ named lists before done.
    let clients = known_by c.args.runtime.now named c.args.clients.now.passes.items in
    (before, done, subst (λ (step : Step). Answers clients before (answers.Refused c.in-Err-checkpoint.refusal) step before) (sym c.in-Checkpoint.is) (c.in-Err-checkpoint.ensures.err, tt, refl))

pub returns-in-Ok-flush-clause-tidy : goal.returns-in-Ok-flush-clause-tidy
returns-in-Ok-flush-clause-tidy g c =
    let old = c.args.clients.now.passes.items in
    let count = c.in-Ok-flush.durable in
    let tidy = tidy_flushed count old c.args.clients.now.places.entries c.requires.tidy in
    subst (λ (ps : List HeldPass). AreTidy ps c.flush.new.self.places.entries) (sym c.in-Ok-flush.ensures.told)
    (subst (λ places. AreTidy (map (with_flush count) old) places.entries) (sym c.in-Ok-flush.ensures.places) tidy)

pub returns-in-Err-flush-clause-tidy : goal.returns-in-Err-flush-clause-tidy
returns-in-Err-flush-clause-tidy g c =
    let old = c.args.clients.now.passes.items in
    subst (λ (ps : List HeldPass). AreTidy ps c.flush.new.self.places.entries) (sym c.in-Err-flush.ensures.untold)
    (subst (λ places. AreTidy old places.entries) (sym c.in-Err-flush.ensures.places) c.requires.tidy)
