use Rattle.std.proofs.Common.{sym, subst, Option}
use Rattle.std.specs.Io.KnownBytes.{Appends}
use Rattle.charmlet_script_output.specs.declared.restarted_line.RestartedLine.{RestartedLine}
use Rattle.charmlet_script_output.specs.Writing.{in_lines}
use Rattle.charmlet_script_output.proofs.Printing.{appends_nothing}
use Rattle.charmlet_cli_workers.specs.Said.{opening_texts}
use Rattle.charmlet_cli_workers.proofs.opened.write_opening.Goals as goal

pub returns-in-None : goal.returns-in-None
returns-in-None g c =
    let written = g.W.Write.contents c.args.writer.now in
    subst (λ (r : Option RestartedLine). Appends written written (in_lines (opening_texts r))) (sym c.in-None.is) (appends_nothing written)
