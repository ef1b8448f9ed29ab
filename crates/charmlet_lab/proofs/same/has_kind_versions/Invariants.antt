use Rattle.std.proofs.Common.{drop}
use Rattle.std.specs.Ordering.{nat_cmp}
use Rattle.charmlet_lab.specs.Same.{HasEntries}
use Rattle.charmlet_lab.proofs.same.has_kind_versions.Given as goal

-- the arrays so far are there
abbrev pub invariant-loop-array : goal.invariant-loop-array
invariant-loop-array l =
    (HasEntries nat_cmp l.manifest (drop l.array-index l.arrays) → HasEntries nat_cmp l.manifest l.arrays)
    × (HasEntries nat_cmp l.manifest l.arrays → HasEntries nat_cmp l.manifest (drop l.array-index l.arrays))
