use Rattle.std.proofs.Common.{◌≡◌, ◌≤◌, drop, take}
use Rattle.charmlet_model.specs.declared.kind.Kind.{Kind}
use Rattle.charmlet_script.specs.Script.{blanks_of}
use Rattle.charmlet_engine.specs.Advances.{Advances}
use Rattle.charmlet_script_output.specs.Supplied.{blanks_left}
use Rattle.charmlet_script_output.specs.Ledgers.{ledger_in}
use Rattle.charmlet_cli.specs.Lines.{AreRun, named_at}
use Rattle.charmlet_cli.proofs.new_run.run_lines.Given as goal

-- the lines so far are run, and there are blanks for the others
abbrev pub invariant-loop-line : goal.invariant-loop-line
invariant-loop-line g l =
    AreRun g.D.Disk (named_at l.initial.desk) (ledger_in l.engine) (ledger_in l.initial.engine) (take l.line-index l.lines) (ledger_in l.engine) (g.W.Write.contents l.initial.writer) (g.W.Write.contents l.writer)
    × (l.desk.handlers ≡ l.initial.desk.handlers)
    × ((kind : Kind) → blanks_of kind (drop l.line-index l.lines) ≤ blanks_left l.source kind)
    × Advances g.D.Disk l.initial.engine l.engine
