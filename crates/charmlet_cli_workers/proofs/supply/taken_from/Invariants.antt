use Rattle.std.proofs.Common.{◌≡◌, ◌≤◌}
use Rattle.std.specs.Prelude.{vec_len}
use Rattle.std.specs.Vec.{vec_capacity}
use Rattle.charmlet_stock.specs.ByKind.{with_at}
use Rattle.charmlet_stock.specs.Pile.{with_out}
use Rattle.charmlet_stock.specs.Stock.{census_of, tally_in}
use Rattle.charmlet_cli_workers.proofs.supply.taken_from.Given as goal

-- so many were taken until now, and there is room for the others
abbrev pub invariant-loop : goal.invariant-loop
invariant-loop g l = (vec_len l.blanks ≡ l.counter) × (l.count ≤ vec_capacity l.blanks)
    × (census_of l.source ≡ with_at (census_of l.initial.source) l.kind (with_out (tally_in l.initial.source l.kind) l.counter))
