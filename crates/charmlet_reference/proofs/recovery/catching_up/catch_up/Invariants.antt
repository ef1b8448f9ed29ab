use Rattle.charmlet_reference.proofs.RecoveryLemmas.CatchUpLoops.{IsUnderWay}
use Rattle.charmlet_reference.proofs.recovery.catching_up.catch_up.Given as goal

abbrev pub invariant-loop-place : goal.invariant-loop-place
invariant-loop-place l = IsUnderWay l.fn.plain l.plain l.place l.deliveries
