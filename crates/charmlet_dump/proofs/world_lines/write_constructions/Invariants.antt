use Rattle.std.proofs.Common.{drop}
use Rattle.std.specs.List.{flat_map}
use Rattle.charmlet_dump.specs.Constructing.{all_kinds}
use Rattle.charmlet_dump.specs.Facts.{construction_facts}
use Rattle.charmlet_dump.specs.Lines.{fact_line}
use Rattle.charmlet_dump.proofs.Printing.{IsUnderWay}
use Rattle.charmlet_dump.proofs.world_lines.write_constructions.Given as goal

-- the kinds so far are written
abbrev pub invariant-loop-kind : goal.invariant-loop-kind
invariant-loop-kind g l =
    IsUnderWay (fact_line l.form) (g.W.Write.contents l.initial.writer) (g.W.Write.contents l.writer) (flat_map (construction_facts l.world) all_kinds) (flat_map (construction_facts l.world) (drop l.kind-index all_kinds))
