-- Sums modulo a number.
use Rattle.std.proofs.Common.{◌≡◌, ℕ, ◌+◌, ◌%◌, ◌∙◌}
use Rattle.std.proofs.Math.Nat.{add-mod-mod, mod-add-mod}

-- the parts may be reduced before they are added
pub sum_of_reduced : (a b n : ℕ) → (a % n + b % n) % n ≡ (a + b) % n
sum_of_reduced a b n = mod-add-mod a n (b % n) ∙ add-mod-mod a b n
