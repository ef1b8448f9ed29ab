use Rattle.std.proofs.Common.{ℕ, ◌-◌, List, length, sym, subst, ◌≡◌}
use Rattle.charmlet_image.specs.declared.half.OpenHalf.{OpenHalf}
use Rattle.charmlet_record.specs.declared.reader.ReadError.TheVariants.{Damaged}
use Rattle.charmlet_parallel_replay.specs.declared.log.replay_error.ReplayError.TheVariants.{OutOfBlanks, Read}
use Rattle.charmlet_stock.specs.Stock.{blanks_in}
use Rattle.charmlet_replay.specs.Replayed.{IsFaultAt}
use Rattle.charmlet_recover.proofs.Answered.{enough_for_half, fault_answers, lack_answers}
use Rattle.charmlet_recover.proofs.half_replay.refusal_after.Goals as goal

pub returns-in-Err-clause-answer : goal.returns-in-Err-clause-answer
returns-in-Err-clause-answer g c = λ s is.
    lack_answers (blanks_in c.args.blanks.now) c.args.survey.now.half s OpenHalf (Unit {0}) c.in-Err.refusal (c.in-Err.ensures.answer s is)

pub returns-in-Read-clause-answer : goal.returns-in-Read-clause-answer
returns-in-Read-clause-answer g c = λ s is.
    let survey = c.args.survey.now in
    fault_answers (blanks_in c.args.blanks.now) survey.half s (c.in-Ok.ensures.answer s is) (Unit {0}) (length c.as_slice.result.now) c.in-Read.why c.refusal_of.result c.refusal_of.ensures
    (λ fault at. subst (λ (bytes : List ℕ). IsFaultAt s (length bytes - fault.bytes_left)) (sym c.as_slice.ensures.value) (c.requires.fault s is fault (let whole : c.args.why ≡ Read (Damaged fault) = cc in whole)))

pub unreachable-requires : goal.unreachable-requires
unreachable-requires g c =
    let s = c.requires.reads.0 in
    let is = c.requires.reads.1.found in
    let lack : c.args.why ≡ OutOfBlanks = cc in
    c.requires.lack s is lack (enough_for_half (blanks_in c.args.blanks.now) c.args.survey.now.half s (c.in-Ok.ensures.answer s is))
