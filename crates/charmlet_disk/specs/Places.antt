-- Places within ranges. Lemmas under the laws of a disk stand with the definitions, since an impl
-- cites no others.
use Rattle.std.proofs.Common.{◌≡◌, ◌⊎◌, inl, inr, ⊎_elim, ℕ, suc, ◌+◌, ◌<◌, ◌≤◌, Bool, true, false, ◌&&◌, ◌||◌, List, [], ◌∷◌, ◌++◌, ◌∙◌, ap, arith}
use Rattle.std.proofs.lemmas.Bool.Decides.{leb_tells}
use Rattle.std.proofs.lemmas.List.Folds.{list_any-append}
use Rattle.std.proofs.Math.Bool.{or-false}
use Rattle.std.proofs.Math.Dec.{leb}
use Rattle.charmlet_disk.specs.File.{covers, is_within}

both : (a b : Bool) → a ≡ true → b ≡ true → (a && b) ≡ true
both a b first second = ap (λ (t : Bool). t && b) first ∙ second

not_first : (a b : Bool) → a ≡ false → (a && b) ≡ false
not_first a b first = ap (λ (t : Bool). t && b) first

not_second : (a b : Bool) → a ≡ true → b ≡ false → (a && b) ≡ false
not_second a b first second = ap (λ (t : Bool). t && b) first ∙ second

-- a place is within a range, or beside it
pub tells_place : (k at n : ℕ) → ((is_within k (at, n) ≡ true) × ((at ≤ k) × (k < at + n)))
    ⊎ ((is_within k (at, n) ≡ false) × ((k < at) ⊎ (at + n ≤ k)))
tells_place k at n =
    ⊎_elim
    (λ from. ⊎_elim
    (λ below. inl (
      both (leb at k) (leb (suc k) (at + n)) from.0 below.0,
      (from.1, omega (arith, below.1)),
    ))
    (λ above. inr (
      not_second (leb at k) (leb (suc k) (at + n)) from.0 above.0,
      inr
          (omega (arith, above.1)),
    ))
    (leb_tells (suc k) (at + n)))
    (λ before. inr (not_first (leb at k) (leb (suc k) (at + n)) before.0, inl before.1))
    (leb_tells at k)

-- beside it, it isn't within
pub not_within : (k at n : ℕ) → (k < at) ⊎ (at + n ≤ k) → is_within k (at, n) ≡ false
not_within k at n beside =
    ⊎_elim
    (λ inside. absurd (⊎_elim (λ below. omega (arith, below, inside.1.0))
    (λ above. omega (arith, above, inside.1.1)) beside))
    (λ is. is.0)
    (tells_place k at n)

-- a single range
pub covers_one : (range : ℕ × ℕ) (k : ℕ) → covers (range ∷ []) k ≡ is_within k range
covers_one range k = or-false (is_within k range)

-- one more range
pub covers_push : (ranges : List (ℕ × ℕ)) (range : ℕ × ℕ) (k : ℕ) → covers (ranges ++ range ∷ []) k
    ≡ (covers ranges k || is_within k range)
covers_push ranges range k = list_any-append (is_within k) ranges (range ∷ []) ∙ ap
    (λ (t : Bool). covers ranges k || t) (covers_one range k)
