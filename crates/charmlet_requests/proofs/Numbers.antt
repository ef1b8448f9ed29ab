-- Numbers that follow one another.
use Rattle.std.proofs.Common.{◌≡◌, ℕ, ◌+◌, length, zero, suc, refl, arith}
use Rattle.charmlet_requests.specs.Pass.{numbers_after}

pub length-numbers_after : (from count : ℕ) → count ≡ length (numbers_after from count)
length-numbers_after from zero = refl
length-numbers_after from (suc more) = omega (arith, length-numbers_after (from + 1) more)
