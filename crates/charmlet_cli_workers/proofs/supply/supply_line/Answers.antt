use Rattle.std.proofs.Common.{inl, inr, ◌∷◌, [], refl}
use Rattle.charmlet_script.specs.Printed.{supplied_text}
use Rattle.charmlet_script_output.specs.Writing.{memory_text}
use Rattle.charmlet_cli_workers.proofs.supply.supply_line.Goals as goal

pub returns-in_default-clause-written : goal.returns-in_default-clause-written
returns-in_default-clause-written g c = (memory_text ∷ [], inr refl, c.write_memory_refused.ensures)

pub returns-then-is_err-clause-written : goal.returns-then-is_err-clause-written
returns-then-is_err-clause-written g c = (memory_text ∷ [], inr refl, c.write_memory_refused-then-is_err.ensures)

pub returns-clause-written : goal.returns-clause-written
returns-clause-written g c = (supplied_text (record { kind = c.args.kind; count = c.args.count }) ∷ [], inl refl, c.write_line.ensures)
