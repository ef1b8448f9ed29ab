use Rattle.std.proofs.Common.{drop}
use Rattle.std.specs.List.{flat_map}
use Rattle.charmlet_dump.specs.Facts.{pending_facts}
use Rattle.charmlet_dump.specs.Lines.{fact_line}
use Rattle.charmlet_dump.proofs.Printing.{IsUnderWay}
use Rattle.charmlet_dump.proofs.world_lines.write_pending.Given as goal

-- the messages so far are written
abbrev pub invariant-loop-message : goal.invariant-loop-message
invariant-loop-message g l =
    IsUnderWay (fact_line l.form) (g.W.Write.contents l.initial.writer) (g.W.Write.contents l.writer) (flat_map pending_facts l.pending) (flat_map pending_facts (drop l.message-index l.pending))
