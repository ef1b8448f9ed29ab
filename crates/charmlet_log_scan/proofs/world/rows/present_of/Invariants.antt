use Rattle.std.proofs.Common.{◌≡◌, ◌≤◌, drop, length}
use Rattle.charmlet_world.specs.Seen.{present_rows}
use Rattle.charmlet_log_scan.specs.World.Clients.{risen_clients}
use Rattle.charmlet_log_scan.proofs.world.rows.present_of.Given as goal

-- the rows from the place on stand in the tree
abbrev pub invariant-loop-place : goal.invariant-loop-place
invariant-loop-place l = record {
  within : l.place ≤ length l.rows.entries;
  so_far : l.tree.entries ≡ present_rows (risen_clients (drop l.place l.rows.entries));
}

abbrev pub decreases-loop-place : goal.decreases-loop-place
decreases-loop-place l = l.place
