use Rattle.std.proofs.Common.{◌≡◌}
use Rattle.charmlet_locks.proofs.locks.seize.Given as goal

abbrev pub invariant-loop : goal.invariant-loop
invariant-loop g l = record {
  table : l.seat.table_id ≡ l.fn.seat.table_id;
  me : l.seat.me ≡ l.fn.seat.me;
}
