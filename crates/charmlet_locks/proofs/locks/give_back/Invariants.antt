use Rattle.std.proofs.Common.{◌≡◌, ◌-◌, ◌<◌, ◌≤◌}
use Rattle.charmlet_locks.specs.Home.{HoldsFrom}
use Rattle.charmlet_locks.specs.declared.rule.GhostPlaces.TheVariants.{Begun}
use Rattle.charmlet_locks.proofs.locks.give_back.Given as goal

abbrev pub invariant-loop-place : goal.invariant-loop-place
invariant-loop-place g l = record {
  table : l.seat.table_id ≡ l.fn.seat.table_id;
  within : l.place ≤ l.count;
  held : HoldsFrom g.N.Numbering.number l.place (l.count - l.place) l.seat.me.1;
  begun : l.place < l.count → l.seat.me.0 ≡ Begun;
}
