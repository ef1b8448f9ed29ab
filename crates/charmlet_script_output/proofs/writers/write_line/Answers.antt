use Rattle.std.proofs.Common.{◌≡◌, IfSome, sym, subst}
use Rattle.std.specs.Fmt.{with_newline}
use Rattle.charmlet_script_output.proofs.Printing.{line_written, none_written}
use Rattle.charmlet_script_output.proofs.writers.write_line.Goals as goal

pub returns-in_err-text : goal.returns-in_err-text
returns-in_err-text g c = none_written c.from_residual.result _ (g.W.Write.contents c.args.writer.now) (g.T.Display.output c.args.line.now) c.from_residual.ensures.1

pub returns : goal.returns
returns g c =
    line_written c.write_bytes.result (g.W.Write.contents c.args.writer.now) (g.W.Write.contents c.write_bytes.new.writer) (g.T.Display.output c.args.line.now) c.as_bytes.result.now
    (subst (λ bytes. IfSome (with_newline (g.T.Display.output c.args.line.now)) (λ bs. bytes ≡ bs)) (sym c.as_bytes.ensures.value) c.in_ok-text.ensures.ok) c.write_bytes.ensures
