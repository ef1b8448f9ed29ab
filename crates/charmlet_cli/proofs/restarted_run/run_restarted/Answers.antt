use Rattle.std.proofs.Common.{inl, inr, refl, subst}
use Rattle.charmlet_engine.specs.Engine.{core_of}
use Rattle.std.specs.Io.KnownBytes.{Appends}
use Rattle.charmlet_script_output.specs.Ledgers.{ledger_in}
use Rattle.charmlet_cli.specs.Lines.{AreRun, BreakOff, named_at}
use Rattle.charmlet_script_output.specs.Writing.{AppendsBeginning}
use Rattle.charmlet_cli.proofs.Naming.{same_names}
use Rattle.charmlet_script_output.proofs.Results.{on_err, err_map, ok_map}
use Rattle.charmlet_cli.proofs.Restarts.{said_of}
use Rattle.charmlet_cli.proofs.restarted_run.run_restarted.Goals as goal

pub returns-in_err-write_line-clause-breaks_off : goal.returns-in_err-write_line-clause-breaks_off
returns-in_err-write_line-clause-breaks_off g c =
    let core = core_of c.args.engine.now in
    let said = said_of core c.generation.result c.durable.result c.args.processors c.generation.ensures c.durable.ensures c.requires.durable c.requires.processors in
    on_err c.from_residual.result
    (inl (refl, subst (λ text. AppendsBeginning (g.W.Write.contents c.args.writer.now) (g.W.Write.contents c.write_line.new.writer) text) said c.in_err-write_line.ensures))

pub returns-clause-prints : goal.returns-clause-prints
returns-clause-prints g c =
    let core = core_of c.args.engine.now in
    let said = said_of core c.generation.result c.durable.result c.args.processors c.generation.ensures c.durable.ensures c.requires.durable c.requires.processors in
    let first = subst (λ text. Appends (g.W.Write.contents c.args.writer.now) (g.W.Write.contents c.write_line.new.writer) text) said c.in_ok-write_line.ensures in
    let lines = c.args.script.now.lines in
    let back = ledger_in c.args.engine.now in
    let last = ledger_in c.run_lines.new.engine in
    ok_map c.run_lines.result
    (λ run. (
      g.W.Write.contents c.write_line.new.writer,
      first,
      subst (λ named. AreRun g.D.Disk named last back lines last (g.W.Write.contents c.write_line.new.writer) (g.W.Write.contents c.run_lines.new.writer)) (same_names c.args.desk.now c.args.script.now.handlers c.requires.named)
          (subst (λ ls. AreRun g.D.Disk (named_at c.args.desk.now) last back ls last (g.W.Write.contents c.write_line.new.writer) (g.W.Write.contents c.run_lines.new.writer)) c.lines.ensures run),
    )) c.run_lines.ensures.prints

pub returns-clause-breaks_off : goal.returns-clause-breaks_off
returns-clause-breaks_off g c =
    let core = core_of c.args.engine.now in
    let said = said_of core c.generation.result c.durable.result c.args.processors c.generation.ensures c.durable.ensures c.requires.durable c.requires.processors in
    let first = subst (λ text. Appends (g.W.Write.contents c.args.writer.now) (g.W.Write.contents c.write_line.new.writer) text) said c.in_ok-write_line.ensures in
    let lines = c.args.script.now.lines in
    let back = ledger_in c.args.engine.now in
    let last = ledger_in c.run_lines.new.engine in
    err_map c.run_lines.result
    (λ run. inr (
      g.W.Write.contents c.write_line.new.writer,
      first,
      subst (λ named. BreakOff g.D.Disk named back lines last (g.W.Write.contents c.write_line.new.writer) (g.W.Write.contents c.run_lines.new.writer)) (same_names c.args.desk.now c.args.script.now.handlers c.requires.named)
          (subst (λ ls. BreakOff g.D.Disk (named_at c.args.desk.now) back ls last (g.W.Write.contents c.write_line.new.writer) (g.W.Write.contents c.run_lines.new.writer)) c.lines.ensures run),
    )) c.run_lines.ensures.breaks_off
