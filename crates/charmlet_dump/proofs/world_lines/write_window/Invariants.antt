use Rattle.std.proofs.Common.{◌+◌, drop}
use Rattle.charmlet_model.specs.Row.{below}
use Rattle.charmlet_dump.specs.Facts.{window_facts}
use Rattle.charmlet_dump.specs.Lines.{fact_line}
use Rattle.charmlet_dump.proofs.Printing.{IsUnderWay}
use Rattle.charmlet_dump.proofs.world_lines.write_window.Given as goal

-- the requests so far are written
abbrev pub invariant-loop-place : goal.invariant-loop-place
invariant-loop-place g l =
    IsUnderWay (fact_line l.form) (g.W.Write.contents l.initial.writer) (g.W.Write.contents l.writer) (window_facts l.client (below l.row) l.row.window)
    (window_facts l.client (below l.row + l.place) (drop l.place l.row.window))
