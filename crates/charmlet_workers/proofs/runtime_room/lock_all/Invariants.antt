use Rattle.std.proofs.Common.{◌≡◌, ◌+◌, ◌≤◌, vec_len}
use Rattle.std.specs.Vec.{vec_capacity}
use Rattle.charmlet_workers.proofs.Orders.{AreFrom}
use Rattle.charmlet_workers.proofs.runtime_room.lock_all.Given as goal

-- each shelf is under its lock or still in the list, which has those from the next place on
abbrev pub invariant-loop-locks : goal.invariant-loop-locks
invariant-loop-locks g l = record {
  places : l.locks.places ≡ g.B.RuntimeName.processors;
  all : l.locks.filled + vec_len l.shelves ≡ g.B.RuntimeName.processors;
  numbers : AreFrom l.locks.filled l.shelves.items;
  room : g.B.RuntimeName.processors ≤ vec_capacity l.shelves;
}

abbrev pub decreases-loop-locks : goal.decreases-loop-locks
decreases-loop-locks g l = vec_len l.shelves
