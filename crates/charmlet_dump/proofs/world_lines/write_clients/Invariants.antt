use Rattle.std.specs.List.{flat_map}
use Rattle.charmlet_dump.specs.Facts.{client_facts}
use Rattle.charmlet_dump.specs.Lines.{fact_line}
use Rattle.charmlet_dump.proofs.Printing.{IsUnderWay}
use Rattle.charmlet_dump.proofs.world_lines.write_clients.Given as goal

-- the clients so far are written
abbrev pub invariant-loop-client : goal.invariant-loop-client
invariant-loop-client g l =
    IsUnderWay (fact_line l.form) (g.W.Write.contents l.initial.writer) (g.W.Write.contents l.writer) (flat_map client_facts l.clients.entries) (flat_map client_facts l.client-iterator)
