use Rattle.std.proofs.Common.{◌≡◌, ℕ, ◌-◌, List, length, sym, subst}
use Rattle.charmlet_image.specs.Halves.{Open, found}
use Rattle.charmlet_replay.specs.declared.replayed.Replayed.{Replayed}
use Rattle.charmlet_stock.specs.Stock.{blanks_in}
use Rattle.charmlet_replay.specs.Replayed.{IsFaultAt, IsOpenIn}
use Rattle.charmlet_recover.proofs.Answered.{done_answers, enough_for_half, fault_answers, lack_answers}
use Rattle.charmlet_recover.proofs.Stocks.{unused_is_same}
use Rattle.charmlet_recover.proofs.half_replay.replay_alone.Goals as goal

pub returns-in-Err-clause-answer : goal.returns-in-Err-clause-answer
returns-in-Err-clause-answer g c = λ s is.
    let there = subst (λ (bytes : List ℕ). found bytes ≡ Open s) (sym c.as_slice.ensures.value) is in
    lack_answers (blanks_in c.args.blanks) c.args.survey.now.half s (Unit {0}) (Replayed g.row.C.Denot) c.in-Err.refusal (c.in-Err.ensures.answer s there)

pub replay-requires-clause-half : goal.replay-requires-clause-half
replay-requires-clause-half g c κs within =
    let s = c.requires.reads.0 in
    let there = subst (λ (bytes : List ℕ). found bytes ≡ Open s) (sym c.as_slice.ensures.value) c.requires.reads.1.found in (
      c.args.survey.now.bytes.items,
      s,
      subst (λ (bytes : List ℕ). IsOpenIn bytes s c.args.half) c.as_slice.ensures.value (c.in_default.ensures.half s there),
      enough_for_half (blanks_in c.args.blanks) c.args.survey.now.half s (c.in_default.ensures.answer s there),
    )

pub returns-in-Ok-clause-ok : goal.returns-in-Ok-clause-ok
returns-in-Ok-clause-ok g c = λ s is.
    let there = subst (λ (bytes : List ℕ). found bytes ≡ Open s) (sym c.as_slice.ensures.value) is in
    c.in-Ok.ensures.ok c.args.survey.now.bytes.items s (subst (λ (bytes : List ℕ). IsOpenIn bytes s c.args.half) c.as_slice.ensures.value (c.in_default.ensures.half s there))

pub returns-in-Ok-clause-answer : goal.returns-in-Ok-clause-answer
returns-in-Ok-clause-answer g c = λ s is.
    let there = subst (λ (bytes : List ℕ). found bytes ≡ Open s) (sym c.as_slice.ensures.value) is in
    let replayed = c.in-Ok.ensures.ok c.args.survey.now.bytes.items s (subst (λ (bytes : List ℕ). IsOpenIn bytes s c.args.half) c.as_slice.ensures.value (c.in_default.ensures.half s there)) in
    done_answers (blanks_in c.args.blanks) c.args.survey.now.half s (c.in_default.ensures.answer s there) _ _ c.in-Ok.replayed replayed.means

pub returns-in-Err-replay-clause-answer : goal.returns-in-Err-replay-clause-answer
returns-in-Err-replay-clause-answer g c = λ s is.
    let survey = c.args.survey.now in
    let there = subst (λ (bytes : List ℕ). found bytes ≡ Open s) (sym c.as_slice.ensures.value) is in
    let opened = subst (λ (bytes : List ℕ). IsOpenIn bytes s c.args.half) c.as_slice.ensures.value (c.in_default.ensures.half s there) in
    fault_answers (blanks_in c.args.blanks) survey.half s (c.in_default.ensures.answer s there) (Replayed g.row.C.Denot) (length c.as_slice-in-Err-replay.result.now) c.in-Err-replay.field-0.why c.refusal_of.result c.refusal_of.ensures
    (λ fault at. subst (λ (bytes : List ℕ). IsFaultAt s (length bytes - fault.bytes_left)) (sym c.as_slice-in-Err-replay.ensures.value) (c.in-Err-replay.ensures.fault survey.bytes.items s opened fault at))

pub returns-in-Err-replay-clause-back : goal.returns-in-Err-replay-clause-back
returns-in-Err-replay-clause-back g c = unused_is_same c.args.blanks c.in-Err-replay.field-0.blanks c.requires.unused c.in-Err-replay.ensures.back c.in-Err-replay.ensures.kept
