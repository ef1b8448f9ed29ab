-- Where ranges end, as lemmas.
use Rattle.std.proofs.Common.{◌≡◌, ℕ, ◌+◌, ◌<◌, ◌≤◌, ◌/◌, max, List, [], ◌∷◌, ◌++◌, length, take, get_or, zero, suc, ◌∙◌, ap, arith}
use Rattle.std.proofs.lemmas.List.{take_more}
use Rattle.charmlet_disk.specs.Crash.{range_end, last_end, first_halves}

pub range_end-within : (range : ℕ × ℕ) → range_end range ≤ range.0 + range.1
range_end-within (at, zero) = omega arith
range_end-within (at, suc n) = omega arith

-- one range more
last_end-push : (ranges : List (ℕ × ℕ)) (range : ℕ × ℕ) → last_end (ranges ++ range ∷ [])
    ≡ max (last_end ranges) (range_end range)
last_end-push [] range = omega arith
last_end-push (r ∷ ranges) range = omega (arith, last_end-push ranges range)

pub last_end-more : (ranges : List (ℕ × ℕ)) (i : ℕ) (d : ℕ × ℕ) → i < length ranges →
    last_end (take (i + 1) ranges) ≡ max (last_end (take i ranges)) (range_end (get_or ranges i d))
last_end-more ranges i d lt = ap (λ (rs : List (ℕ × ℕ)). last_end rs)
    (take_more ranges i d lt) ∙ last_end-push (take i ranges) (get_or ranges i d)

pub last_end-wrote : (ranges : List (ℕ × ℕ)) (range : ℕ × ℕ) (end : ℕ) → last_end ranges ≤ end →
    range.0 + range.1 ≤ end → last_end (ranges ++ range ∷ []) ≤ end
last_end-wrote ranges range end within also =
    omega (arith, last_end-push ranges range, within, also, range_end-within range)

-- each range ends by then
pub range_end-le : (ranges : List (ℕ × ℕ)) (i : ℕ) (d : ℕ × ℕ) → i < length ranges →
    range_end (get_or ranges i d) ≤ last_end ranges
range_end-le [] i d lt = absurd (omega (arith, lt))
range_end-le (r ∷ ranges) zero d lt = omega arith
range_end-le (r ∷ ranges) (suc i) d lt = omega (arith, range_end-le ranges i d (omega (arith, lt)))

-- halves end no later
half_end : (at n : ℕ) → range_end (at, n / 2) ≤ range_end (at, n)
half_end at zero = omega arith
half_end at (suc n) = omega (arith, range_end-within (at, suc n / 2))

pub last_end-halves : (ranges : List (ℕ × ℕ)) → last_end (first_halves ranges) ≤ last_end ranges
last_end-halves [] = omega arith
last_end-halves (r ∷ ranges) = omega (arith, last_end-halves ranges, half_end r.0 r.1)
