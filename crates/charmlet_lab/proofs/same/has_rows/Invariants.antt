use Rattle.std.specs.Ordering.{nat_cmp}
use Rattle.charmlet_lab.specs.Same.{HasEntries}
use Rattle.charmlet_lab.proofs.same.has_rows.Given as goal

-- the rows so far are there
abbrev pub invariant-loop-client : goal.invariant-loop-client
invariant-loop-client l =
    (HasEntries nat_cmp l.all.clients l.client-iterator → HasEntries nat_cmp l.all.clients l.some.clients)
    × (HasEntries nat_cmp l.all.clients l.some.clients → HasEntries nat_cmp l.all.clients l.client-iterator)
