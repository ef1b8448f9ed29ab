use Rattle.std.proofs.Common.{drop}
use Rattle.std.specs.List.{flat_map}
use Rattle.charmlet_dump.specs.Facts.{array_facts}
use Rattle.charmlet_dump.specs.Lines.{fact_line}
use Rattle.charmlet_dump.proofs.Printing.{IsUnderWay}
use Rattle.charmlet_dump.proofs.world_lines.write_arrays.Given as goal

-- the arrays so far are written
abbrev pub invariant-loop-array : goal.invariant-loop-array
invariant-loop-array g l =
    IsUnderWay (fact_line l.form) (g.W.Write.contents l.initial.writer) (g.W.Write.contents l.writer) (flat_map array_facts l.arrays) (flat_map array_facts (drop l.array-index l.arrays))
