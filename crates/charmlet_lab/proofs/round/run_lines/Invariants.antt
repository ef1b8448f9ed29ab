use Rattle.std.proofs.Common.{◌≤◌, drop}
use Rattle.charmlet_model.specs.declared.kind.Kind.{Kind}
use Rattle.charmlet_model.specs.Run.{StoreView}
use Rattle.charmlet_requests.specs.Handlers.{handler_of}
use Rattle.charmlet_stock.specs.Stock as stocks
use Rattle.charmlet_script.specs.Script.{blanks_of}
use Rattle.charmlet_engine.specs.Advances.{Advances}
use Rattle.charmlet_engine.specs.Engine.{view_of}
use Rattle.charmlet_lab.specs.Lines.{AreRun}
use Rattle.charmlet_lab.specs.Rounds.{HaltsByFailure}
use Rattle.charmlet_lab.proofs.round.run_lines.Given as goal

-- the engine went on, there are blanks for the other lines, once these are run, all are, and the
-- store was halted if and only if the disk failed
abbrev pub invariant-loop-line : goal.invariant-loop-line
invariant-loop-line g l =
    Advances g.D.Disk l.initial.engine l.engine
    × ((kind : Kind) → blanks_of kind (drop l.line-index l.lines) ≤ stocks.blanks_in l.source kind)
    × ((last : StoreView) → AreRun (handler_of l.handlers) (view_of l.engine) (drop l.line-index l.lines) last
    → AreRun (handler_of l.handlers) (view_of l.initial.engine) l.lines last)
    × HaltsByFailure g.D.Disk l.initial.engine l.engine
