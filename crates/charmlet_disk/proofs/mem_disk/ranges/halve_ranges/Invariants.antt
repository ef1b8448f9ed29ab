use Rattle.std.proofs.Common.{◌≡◌, ◌++◌, take, drop}
use Rattle.charmlet_disk.specs.Crash.{first_halves}
use Rattle.charmlet_disk.proofs.mem_disk.ranges.halve_ranges.Given as goal

abbrev pub invariant-loop-k : goal.invariant-loop-k
invariant-loop-k l = l.ranges ≡ first_halves (take l.k l.initial.ranges) ++ drop l.k l.initial.ranges
