use Rattle.std.proofs.Common.{◌∷◌, []}
use Rattle.charmlet_model.specs.Texts.{answer_text}
use Rattle.charmlet_script_output.specs.Writing.{in_lines}
use Rattle.charmlet_script_output.proofs.Printing.{all_written, appends_kept, beginning_written}
use Rattle.charmlet_script_output.proofs.writers.write_step_answer.Goals as goal

pub returns-in_err-write_answer : goal.returns-in_err-write_answer
returns-in_err-write_answer g c =
    beginning_written c.from_residual.result _ (g.W.Write.contents c.args.writer.now) (g.W.Write.contents c.write_answer.new.writer) (in_lines (answer_text c.args.answer.now ∷ []))
    c.from_residual.ensures.1 c.in_err-write_answer.ensures

pub returns-in-Flush : goal.returns-in-Flush
returns-in-Flush g c =
    let old = g.W.Write.contents c.args.writer.now in
    let mid = g.W.Write.contents c.write_answer.new.writer in
    let new = g.W.Write.contents c.flush.new.self in
    let line = in_lines (answer_text c.args.answer.now ∷ []) in
    all_written c.flush.result old new line (appends_kept old mid new line c.in_ok-write_answer.ensures c.flush.ensures.bytes)
