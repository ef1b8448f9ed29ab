use Rattle.std.proofs.Common.{ap, inl, inr, ◌∷◌, [], refl}
use Rattle.charmlet_model.specs.declared.refusal.Refusal.TheVariants.{Memory}
use Rattle.charmlet_model.specs.declared.step.Answer.TheVariants.{Refused}
use Rattle.charmlet_model.specs.Texts.{Text, answer_text}
use Rattle.charmlet_script.specs.Printed.{shown_text}
use Rattle.charmlet_script_output.specs.Writing.{memory_text}
use Rattle.charmlet_cli_workers.proofs.inquiries.state_line.Goals as goal

pub returns-in-Err : goal.returns-in-Err
returns-in-Err g c = (answer_text (Refused c.in-Err.refusal) ∷ [], inr (c.in-Err.refusal, c.in-Err.ensures.err, refl), c.write_answer.ensures)

pub returns-in-Ok-shown_of : goal.returns-in-Ok-shown_of
returns-in-Ok-shown_of g c = (shown_text c.in-Ok-shown_of.shown ∷ [], inl (c.in-Ok.look, c.in-Ok.ensures.seen, ap (λ (t : Text). t ∷ []) c.in-Ok-shown_of.ensures.ok), c.write_line.ensures)

pub returns-in-Err-shown_of : goal.returns-in-Err-shown_of
returns-in-Err-shown_of g c = (memory_text ∷ [], inr (Memory, inr refl, refl), c.write_memory_refused.ensures)
