-- The first failure among tests, from a place on.
use Rattle.std.proofs.Common.{ℕ, ◌+◌, Bool, List}
use Rattle.std.specs.Prelude.{Option, option_map}
use Rattle.charmlet_recovery.specs.Faults.{first_failure}

-- the first failure of tests, the first of which has this place
abbrev pub failure_from : ℕ → List Bool → Option ℕ
failure_from place tests = option_map (λ i. place + i) (first_failure tests)
