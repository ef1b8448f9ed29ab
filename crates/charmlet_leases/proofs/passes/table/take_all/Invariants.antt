use Rattle.std.proofs.Common.{vec_len}
use Rattle.charmlet_leases.proofs.PassesLemmas.Taken.{IsTakenSoFar}
use Rattle.charmlet_leases.proofs.passes.table.take_all.Given as goal

abbrev pub invariant-loop-pass : goal.invariant-loop-pass
invariant-loop-pass g l = IsTakenSoFar l.initial.authority l.initial.passes.items l.authority l.passes.items

abbrev pub decreases-loop-pass : goal.decreases-loop-pass
decreases-loop-pass g l = vec_len l.passes
