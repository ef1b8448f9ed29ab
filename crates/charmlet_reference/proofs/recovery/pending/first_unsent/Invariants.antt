use Rattle.std.proofs.Common.{◌≡◌, drop}
use Rattle.charmlet_recovery.specs.Faults.{first_failure, pending_tests}
use Rattle.charmlet_reference.proofs.RecoveryLemmas.Failures.{failure_from}
use Rattle.charmlet_reference.proofs.recovery.pending.first_unsent.Given as goal

-- the first failure is among the messages that are left
abbrev pub invariant-loop-place : goal.invariant-loop-place
invariant-loop-place l = failure_from l.place (pending_tests l.plain (drop l.place l.plain.pending)) ≡ first_failure (pending_tests l.plain l.plain.pending)
