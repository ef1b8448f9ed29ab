use Rattle.std.proofs.Common.{◌+◌, ◌∙◌, Bool, ap, cond, drop, sym, ℕ}
use Rattle.std.specs.Prelude.{Option, None, Some}
use Rattle.charmlet_dump.specs.Arguments.{number_after}
use Rattle.charmlet_dump.proofs.Numbers.{none_after, one_after}
use Rattle.charmlet_dump.proofs.arguments.number_of.Goals as goal

pub returns-in_err-number : goal.returns-in_err-number
returns-in_err-number c =
    let digits = c.args.digits.now in
    let at = c.loop-digit.digit-index in
    let left = drop (at + 1) digits in
    c.from_residual.ensures
    ∙ sym
    (ap (λ (b : Bool). cond b None (number_after (Some 0) digits)) (sym c.if-is_empty.ensures)
    ∙ c.loop-digit.invariant
    ∙ one_after c.loop-digit.number digits at c.loop-digit-test.true
    ∙ ap (λ (number : Option ℕ). number_after number left) (sym c.next_number.ensures ∙ c.in_err-number.was)
    ∙ none_after left)
