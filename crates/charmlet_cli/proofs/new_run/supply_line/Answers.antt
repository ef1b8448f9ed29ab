use Rattle.std.proofs.Common.{inl, inr, ◌∷◌, [], refl, sym, ◌∙◌}
use Rattle.charmlet_script.specs.Printed.{supplied_text}
use Rattle.charmlet_stock.proofs.Results.{when_ok, when_err}
use Rattle.charmlet_script_output.specs.Writing.{memory_text}
use Rattle.charmlet_cli.proofs.new_run.supply_line.Goals as goal

pub returns-then-is_err-clause-prints : goal.returns-then-is_err-clause-prints
returns-then-is_err-clause-prints g c =
    let is = sym c.is_err.ensures.value ∙ c.if-is_err.true in
    let same = when_err _ c.transfer_from.result is c.transfer_from.ensures.err in
    (memory_text ∷ [], (memory_text, inr (refl, λ i. record { store = same.0 i; supplied = same.1 i; disk = c.transfer_from.ensures.disk i }), refl), c.write_memory_refused.ensures)

pub returns-clause-prints : goal.returns-clause-prints
returns-clause-prints g c =
    let is = sym c.is_err.ensures.value ∙ c.if-is_err.false in
    let drawn = when_ok _ c.transfer_from.result is c.transfer_from.ensures.drawn in
    let text = supplied_text (record { kind = c.args.kind; count = c.args.count }) in
    (text ∷ [], (text, inl (refl, record { core = c.transfer_from.ensures.core; blanks = drawn; supplied = when_ok _ c.transfer_from.result is c.transfer_from.ensures.supplied; disk = c.transfer_from.ensures.disk }), refl), c.write_line.ensures)
