use Rattle.std.proofs.Common.{◌≡◌, ℕ, ◌<◌, true}
use Rattle.std.specs.Prelude.{is_some}
use Rattle.std.specs.BTreeMap.{is_at}
use Rattle.std.specs.Map.{lookup}
use Rattle.std.specs.Ordering.{nat_cmp}
use Rattle.charmlet_requests.proofs.calls.array_not_in.Given as goal

abbrev pub invariant-loop-array : goal.invariant-loop-array
invariant-loop-array l = (k : ℕ) → k < l.array → is_some (lookup (is_at (nat_cmp k)) l.manifest) ≡ true
