use Rattle.std.proofs.Common.{◌≡◌, ◌-◌, ◌≤◌, ◌<◌, ◌++◌, List, ℕ, Option}
use Rattle.charmlet_locks.specs.Home.{HoldsFrom, vacancies}
use Rattle.charmlet_locks.specs.Locks.{AreInOrder}
use Rattle.charmlet_locks.specs.declared.rule.GhostPlaces.TheVariants.{Begun}
use Rattle.charmlet_locks.proofs.locks.Locks.into_values.Given as goal

abbrev pub invariant-loop-place : goal.invariant-loop-place
invariant-loop-place g l = record {
  table : l.seat.table_id ≡ l.table.shared.table_id;
  begun : 0 < l.count → l.seat.me.0 ≡ Begun;
  holds : (more : List (ℕ × Option _)) × (l.seat.me.1 ≡ more ++ vacancies 0 l.place) × HoldsFrom g.N.Numbering.number l.place (l.count - l.place) more;
  values : AreInOrder g.N.Numbering.number l.place l.values.items;
  len : l.values.len ≡ l.place;
  room : l.count ≤ l.values.cap;
}
