use Rattle.std.proofs.Common.{◌≡◌, ◌+◌, ◌∙◌, ap, drop, sym, arith}
use Rattle.std.specs.Prelude.{Result, Err, map}
use Rattle.charmlet_dump.specs.declared.arguments.Asked as askings
use Rattle.charmlet_dump.specs.declared.arguments.BadLine as lines
use Rattle.charmlet_dump.specs.Arguments.{Asked, Bad, asked_all, asked_in, asked_or_bad, bad_in, finished, nothing_asked, then_so}
use Rattle.charmlet_dump.proofs.Wording.{bad_word, next_word}
use Rattle.charmlet_dump.proofs.arguments.arguments_of.Goals as goal

pub loop-place-preserved : goal.loop-place-preserved
loop-place-preserved g c =
    let text = g.S.AsStr.text in
    let words = c.args.words.now in
    let at = c.loop-place.place in
    c.loop-place.invariant
    ∙ next_word text words at c.index-words-place.result (asked_in c.loop-place.asked) c.as_str.result.now (asked_or_bad c.read_word.result) (omega arith) c.index-words-place.is c.as_str.ensures c.read_word.ensures
    ∙ ap (λ (r : Result askings.Asked lines.BadLine). then_so (asked_or_bad r) (λ next. asked_all next (drop (at + 1) (map text words)))) c.in_ok-asked.was

pub returns-in_err-asked : goal.returns-in_err-asked
returns-in_err-asked g c =
    let text = g.S.AsStr.text in
    let words = c.args.words.now in
    let at = c.loop-place.place in
    let bad = c.in_err-asked.field-0.0 in
    let all : asked_all nothing_asked (drop 1 (map text words)) ≡ Err (bad_in bad) = c.loop-place.invariant
    ∙ next_word text words at c.index-words-place.result (asked_in c.loop-place.asked) c.as_str.result.now (asked_or_bad c.read_word.result) (omega arith) c.index-words-place.is c.as_str.ensures c.read_word.ensures
    ∙ ap (λ (r : Result askings.Asked lines.BadLine). then_so (asked_or_bad r) (λ next. asked_all next (drop (at + 1) (map text words)))) c.in_err-asked.was in
    bad_word c.from_residual.result bad c.from_residual.ensures.1 ∙ ap (λ (r : Result Asked Bad). then_so r finished) (sym all)
