use Rattle.std.proofs.Common.{rules, ◌≡◌, sym, ap, subst, ◌∙◌}
use Rattle.std.specs.Prelude.{Some, Result, Err}
use Rattle.charmlet_model.specs.declared.refusal.Refusal.{Refusal}
use Rattle.charmlet_model.specs.Core.{Assign, first_refusal, checks}
use Rattle.charmlet_model.specs.Run.{Goes}
use Rattle.charmlet_history.specs.Kept.{core_in, plenty}
use Rattle.charmlet_stock.specs.Stock.{blanks_in}
use Rattle.charmlet_delivery.specs.Workplace.{done_or_refused, store_with}
use Rattle.charmlet_delivery.proofs.Assigning.{is_refused_so}
use Rattle.charmlet_delivery.proofs.parts.assign.Goals as goal

pub returns-in_err-wanted-clause-goes : goal.returns-in_err-wanted-clause-goes
returns-in_err-wanted-clause-goes g c =
    let on = c.args.shelf.now.number in
    let core = core_in c.args.history.now in
    let store = store_with c.args.history.now c.args.stock.now in
    let refusal = c.in_err-wanted.field-0.0 in
    let refused : first_refusal (checks core plenty (Assign on c.args.id)) ≡ Some refusal =
    ap (λ p. first_refusal (checks core plenty (Assign p c.args.id))) (sym c.number.ensures) ∙ c.in_err-wanted.ensures.err in
    let is : Err refusal ≡ c.from_residual.result = search rules in
    subst (λ (result : Result (Unit {0}) Refusal). Goes store (Assign on c.args.id) (done_or_refused result) store) is (is_refused_so core (blanks_in c.args.stock.now) on c.args.id refusal refused)
