use Rattle.std.proofs.Common.{◌≡◌, ◌-◌, ◌<◌}
use Rattle.charmlet_locks.specs.Home.{HoldsFrom}
use Rattle.charmlet_locks.specs.declared.rule.GhostPlaces.TheVariants.{Begun}
use Rattle.charmlet_locks.proofs.locks.seize_all.Given as goal

abbrev pub invariant-loop-taken : goal.invariant-loop-taken
invariant-loop-taken g l = record {
  table : l.seat.table_id ≡ l.fn.seat.table_id;
  held : HoldsFrom g.N.Numbering.number (l.count - l.taken) l.taken l.seat.me.1;
  begun : 0 < l.taken → l.seat.me.0 ≡ Begun;
}
