use Rattle.std.proofs.Common.{ℕ, ◌<◌, ◌++◌, List, length, get_or, ap, ◌∙◌, arith}
use Rattle.std.proofs.lemmas.List.{take_more}
use Rattle.charmlet_pup.specs.Fields.{number_bytes}
use Rattle.charmlet_pup.proofs.ListLemmas.{flat_words-more}
use Rattle.charmlet_reference.proofs.packed.push_numbers.Goals as goal

pub loop-number-preserved : goal.loop-number-preserved
loop-number-preserved c =
    let all = c.args.numbers.now in
    let at = c.loop-number.number-index in
    let inside : at < length all = omega arith in
    let more = take_more all at 0 inside in
    c.in_ok-push_number.ensures
    ∙ ap (λ (s : List ℕ). s ++ number_bytes 8 (get_or all at 0)) c.loop-number.invariant
    ∙ flat_words-more c.args.into.now.items all at (get_or all at 0) more
