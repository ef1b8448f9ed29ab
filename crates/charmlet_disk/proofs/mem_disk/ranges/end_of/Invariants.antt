use Rattle.std.proofs.Common.{◌≡◌, take}
use Rattle.charmlet_disk.specs.Crash.{last_end}
use Rattle.charmlet_disk.proofs.mem_disk.ranges.end_of.Given as goal

abbrev pub invariant-loop-offset : goal.invariant-loop-offset
invariant-loop-offset l = l.end ≡ last_end (take l.offset-index l.ranges)
