use Rattle.std.proofs.Common.{arith, sym, ◌∙◌}
use Rattle.std.specs.Prelude.{None}
use Rattle.charmlet_recovery.specs.Blanks.{least_short}
use Rattle.charmlet_recovery.specs.Restarts.{short_refusal, wanted_of}
use Rattle.charmlet_stock.specs.Stock.{blanks_in}
use Rattle.charmlet_recover.specs.Wanted as counts
use Rattle.charmlet_recover.proofs.Answered.{answers_so, lack_is_of_half, open_is, same_lack}
use Rattle.charmlet_recover.proofs.readable.test_blanks.Goals as goal

pub returns-in_err-wanted-clause-half : goal.returns-in_err-wanted-clause-half
returns-in_err-wanted-clause-half g c = λ s is. open_is c.args.bytes.now s c.args.half.now c.requires (λ k. omega (arith, c.type_inv.bytes k)) is

pub returns-in-Some-clause-half : goal.returns-in-Some-clause-half
returns-in-Some-clause-half g c = λ s is. open_is c.args.bytes.now s c.args.half.now c.requires (λ k. omega (arith, c.type_inv.bytes k)) is

pub returns-in-None-clause-half : goal.returns-in-None-clause-half
returns-in-None-clause-half g c = λ s is. open_is c.args.bytes.now s c.args.half.now c.requires (λ k. omega (arith, c.type_inv.bytes k)) is

pub returns-in-Some-clause-answer : goal.returns-in-Some-clause-answer
returns-in-Some-clause-answer g c = λ s is.
    let given = blanks_in c.args.blanks.now in
    let counted = counts.blanks_in c.in_ok-wanted.wanted in
    answers_so (Unit {0}) (short_refusal (least_short given (wanted_of s)) None) c.in-Some.refusal (sym (same_lack given counted (wanted_of s) (c.in_ok-wanted.ensures s is)) ∙ sym c.lacking.ensures ∙ c.in-Some.is)

pub returns-in-Some-clause-err : goal.returns-in-Some-clause-err
returns-in-Some-clause-err g c =
    lack_is_of_half (least_short (blanks_in c.args.blanks.now) (counts.blanks_in c.in_ok-wanted.wanted)) c.in-Some.refusal (sym c.lacking.ensures ∙ c.in-Some.is)

pub returns-in-None-clause-answer : goal.returns-in-None-clause-answer
returns-in-None-clause-answer g c = λ s is.
    let counted = counts.blanks_in c.in_ok-wanted.wanted in
    sym (same_lack (blanks_in c.args.blanks.now) counted (wanted_of s) (c.in_ok-wanted.ensures s is)) ∙ sym c.lacking.ensures ∙ c.in-None.is
