use Rattle.std.proofs.Common.{◌≡◌}
use Rattle.charmlet_workers.proofs.runtime.Runtime.image_all.Given as goal

-- as many shelves were handed in as were locked
abbrev pub invariant-loop-place : goal.invariant-loop-place
invariant-loop-place g l = (l.checkpoint.shelves ≡ l.place) × (l.place-end ≡ g.B.RuntimeName.processors)
