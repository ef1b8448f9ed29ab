-- Lists of sequence numbers.
use Rattle.std.specs.Prelude.{ℕ, ◌-◌, ◌≤◌, ◌<◌, not, ◌==◌, nat_lt, List, [], ◌∷◌, ◌++◌, length, take, drop, filter, if◌then◌else◌}
use Rattle.std.specs.List.{AllByRecursion}

-- the numbers, and for how many there is room in all
pub record Line : Type 0 where
  pub seq_nos : List ℕ
  pub capacity : ℕ

-- each is before the number
abbrev pub AllBefore : ℕ → List ℕ → Type 0
AllBefore n seq_nos = AllByRecursion (λ m. m < n) seq_nos

-- none is before the number
abbrev pub AllFrom : ℕ → List ℕ → Type 0
AllFrom n seq_nos = AllByRecursion (λ m. n ≤ m) seq_nos

-- each is after the number
abbrev pub AllAfter : ℕ → List ℕ → Type 0
AllAfter n seq_nos = AllByRecursion (λ m. n < m) seq_nos

-- each is before those behind it
abbrev pub Climbs : List ℕ → Type 0
Climbs [] = Unit {0}
Climbs (n ∷ seq_nos) = AllAfter n seq_nos × Climbs seq_nos

-- with this number, in its place
abbrev pub with_number : ℕ → List ℕ → List ℕ
with_number n [] = n ∷ []
with_number n (m ∷ seq_nos) =
    if nat_lt n m then n ∷ m ∷ seq_nos
    else if m == n then m ∷ seq_nos else m ∷ with_number n seq_nos

-- without this number
abbrev pub without_number : ℕ → List ℕ → List ℕ
without_number n seq_nos = filter (λ m. not (m == n)) seq_nos

-- ---- rings

-- so many of the first ones stand last
abbrev pub turned : {X : Type 0} → ℕ → List X → List X
turned count items = drop count items ++ take count items

-- what a ring holds whose last so many numbers come first
abbrev pub in_order : ℕ → List ℕ → List ℕ
in_order behind ring = turned (length ring - behind) ring

-- the cursor is within a ring, whose numbers climb from it on and round
pub record IsInOrder (behind : ℕ) (ring : List ℕ) (capacity : ℕ) : Type 0 where
  pub within : behind ≤ length ring
  pub climbs : Climbs (in_order behind ring)
  pub fits : length ring ≤ capacity
