use Rattle.std.proofs.Common.{◌≡◌}
use Rattle.charmlet_locks.specs.Locks.{shown}
use Rattle.charmlet_state_tests.proofs.tests.history.locks.filled.Given as goal

abbrev pub invariant-loop-place : goal.invariant-loop-place
invariant-loop-place l = l.room ≡ shown l.count l.place
