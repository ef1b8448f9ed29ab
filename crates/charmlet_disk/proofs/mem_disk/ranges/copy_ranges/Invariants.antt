use Rattle.std.proofs.Common.{take}
use Rattle.std.proofs.Common.{get_or}
use Rattle.charmlet_disk.specs.Overlay.{IsOverlaid}
use Rattle.charmlet_disk.proofs.mem_disk.ranges.copy_ranges.Given as goal

-- so many of the ranges are done
abbrev pub invariant-loop-offset : goal.invariant-loop-offset
invariant-loop-offset l = IsOverlaid (take l.offset-index l.ranges) (λ k. get_or l.from k 0) l.initial.to l.to
