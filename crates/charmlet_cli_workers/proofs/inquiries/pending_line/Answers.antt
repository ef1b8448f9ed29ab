use Rattle.std.proofs.Common.{inl, inr, ◌∷◌, [], refl, sym, subst}
use Rattle.charmlet_script.specs.Printed.{pending_text}
use Rattle.charmlet_script_output.specs.Writing.{memory_text}
use Rattle.charmlet_workers.specs.Runtime.{ArePendingIds}
use Rattle.charmlet_cli_workers.proofs.inquiries.pending_line.Goals as goal

pub returns-in-Ok : goal.returns-in-Ok
returns-in-Ok g c = (pending_text c.as_slice.result.now ∷ [], inl (c.as_slice.result.now, subst (ArePendingIds c.args.runtime.now) (sym c.as_slice.ensures.value) c.in-Ok.ensures, refl), c.write_line.ensures)

pub returns-in-Err : goal.returns-in-Err
returns-in-Err g c = (memory_text ∷ [], inr refl, c.write_memory_refused.ensures)
