use Rattle.std.proofs.Common.{◌≡◌, sym, subst, ◌∙◌}
use Rattle.std.specs.Prelude.{Err}
use Rattle.charmlet_image.specs.Halves.{IsSaved, Open, Takes}
use Rattle.charmlet_model.specs.Core.{Blanks}
use Rattle.charmlet_recovery.specs.RestartLaws.{IsEnough}
use Rattle.charmlet_recovery.specs.Restarts.{taken_refusal, wanted_of}
use Rattle.charmlet_replay.specs.declared.replayed.Replayed.{Replayed}
use Rattle.charmlet_stock.specs.Stock.{blanks_in}
use Rattle.charmlet_recover.specs.Restart.{AnswersBy}
use Rattle.charmlet_store.specs.Store.{blanks_of}
use Rattle.charmlet_recover.proofs.Answered.{answers_as, whole_answers}
use Rattle.charmlet_recover.proofs.Left.{were_enough}
use Rattle.charmlet_recover.proofs.Stocks.{same_blanks, unused_is_same}
use Rattle.charmlet_recover.proofs.half_replay.replay_shared.Goals as goal

pub replay_by-requires-clause-half : goal.replay_by-requires-clause-half
replay_by-requires-clause-half g c κs within =
    let s = c.requires.reads.0 in
    let its = c.requires.half s c.requires.reads.1.found in
    (c.args.survey.now.bytes.items, s, its.0, its.1)

pub refusal_after-refusal-requires-clause-fault : goal.refusal_after-refusal-requires-clause-fault
refusal_after-refusal-requires-clause-fault g c κs within = λ s is fault why. c.in-Err.ensures.fault c.args.survey.now.bytes.items s (c.requires.half s is).0 fault why

pub refusal_after-refusal-requires-clause-lack : goal.refusal_after-refusal-requires-clause-lack
refusal_after-refusal-requires-clause-lack g c κs within = λ s is why enough.
    let back = c.in-Err.field-0.blanks in
    let same = same_blanks c.args.blanks back (unused_is_same c.args.blanks back c.requires.unused c.in-Err.ensures.back c.in-Err.ensures.kept) in
    c.in-Err.ensures.lack c.args.survey.now.bytes.items s (c.requires.half s is).0 why (subst (λ (given : Blanks). IsEnough given (wanted_of s)) same enough)

pub returns-in-Ok-clause-ok : goal.returns-in-Ok-clause-ok
returns-in-Ok-clause-ok g c = λ s is. c.in-Ok.ensures.ok c.args.survey.now.bytes.items s (c.requires.half s is).0

pub returns-in-Ok-clause-answer : goal.returns-in-Ok-clause-answer
returns-in-Ok-clause-answer g c = λ s is.
    let replayed = c.in-Ok.ensures.ok c.args.survey.now.bytes.items s (c.requires.half s is).0 in
    let says = c.requires.reads.1 in
    let same : c.requires.reads.0 ≡ s = (let both : Open c.requires.reads.0 ≡ Open s = sym says.found ∙ is in cc) in
    let good = subst IsSaved same says.good in
    let given = blanks_in c.args.blanks in
    let enough = were_enough s _ _ good replayed.means given (blanks_of c.in-Ok.replayed.store) replayed.left in
    whole_answers given c.args.survey.now.half s enough _ _ c.in-Ok.replayed replayed.means

pub returns-in-Err-clause-answer : goal.returns-in-Err-clause-answer
returns-in-Err-clause-answer g c = λ s is.
    let back = c.in-Err.field-0.blanks in
    let same = same_blanks c.args.blanks back (unused_is_same c.args.blanks back c.requires.unused c.in-Err.ensures.back c.in-Err.ensures.kept) in
    let half = c.args.survey.now.half in
    answers_as (Unit {0}) (Replayed g.row.C.Denot) (taken_refusal (blanks_in c.args.blanks) (Takes half s)) c.refusal_after-refusal.result
    (subst (λ (given : Blanks). AnswersBy {X = Unit {0}} (taken_refusal given (Takes half s)) (Err c.refusal_after-refusal.result)) same (c.refusal_after-refusal.ensures.answer s is))

pub returns-in-Err-clause-back : goal.returns-in-Err-clause-back
returns-in-Err-clause-back g c = unused_is_same c.args.blanks c.in-Err.field-0.blanks c.requires.unused c.in-Err.ensures.back c.in-Err.ensures.kept
