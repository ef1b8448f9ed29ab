use Rattle.std.specs.List.{flat_map}
use Rattle.charmlet_dump.specs.Facts.{element_facts}
use Rattle.charmlet_dump.specs.Lines.{fact_line}
use Rattle.charmlet_dump.proofs.Printing.{IsUnderWay}
use Rattle.charmlet_dump.proofs.world_lines.write_elements.Given as goal

-- the elements so far are written
abbrev pub invariant-loop-elem : goal.invariant-loop-elem
invariant-loop-elem g l =
    IsUnderWay (fact_line l.form) (g.W.Write.contents l.initial.writer) (g.W.Write.contents l.writer) (flat_map (element_facts l.processors) l.records.entries) (flat_map (element_facts l.processors) l.elem-iterator)
