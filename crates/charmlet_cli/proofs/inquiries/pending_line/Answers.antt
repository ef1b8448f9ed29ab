use Rattle.std.proofs.Common.{inl, inr, ◌∷◌, [], refl, ap, ◌∙◌}
use Rattle.charmlet_script.specs.Printed.{pending_text}
use Rattle.charmlet_script_output.specs.Writing.{memory_text}
use Rattle.charmlet_cli.proofs.inquiries.pending_line.Goals as goal

pub returns-in_default : goal.returns-in_default
returns-in_default g c = (memory_text ∷ [], (memory_text, inr refl, refl, refl), c.write_memory_refused.ensures)

pub returns : goal.returns
returns g c =
    let text = pending_text c.as_slice.result.now in
    (text ∷ [], (text, inl (ap pending_text (c.as_slice.ensures.value ∙ c.in-Ok.ensures)), refl, refl), c.write_line.ensures)
