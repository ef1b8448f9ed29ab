use Rattle.std.proofs.Common.{◌≡◌, ◌⊎◌, ℕ, ◌<◌, ◌≤◌, get_or, length}
use Rattle.charmlet_disk.proofs.mem_disk.ranges.copy_range.Given as goal

abbrev pub invariant-loop-k : goal.invariant-loop-k
invariant-loop-k l = record {
  inside : (i : ℕ) → l.offset ≤ i → i < l.k → i < length l.to → get_or l.to i 0 ≡ get_or l.from i 0;
  outside : (i : ℕ) → (i < l.offset) ⊎ (l.k ≤ i) → get_or l.to i 0 ≡ get_or l.initial.to i 0;
}
