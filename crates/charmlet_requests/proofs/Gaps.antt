-- A list whose keys rise, and that has all numbers up to one, is at least as long.
use Rattle.std.proofs.Common.{◌≡◌, ◌≢◌, ℕ, ◌+◌, ◌<◌, ◌≤◌, true, false, cond, List, [], ◌∷◌, length, refl, sym, ap, ◌∙◌, arith, zero, suc, Some, None, nat_lt}
use Rattle.std.specs.Prelude.{◌==◌, is_some}
use Rattle.std.specs.List.{AllByRecursion}
use Rattle.std.specs.List.Sorted.{IsStrictlySortedBy}
use Rattle.std.specs.Map.{keys_of, lookup}
use Rattle.std.specs.BTreeMap.{is_at}
use Rattle.std.proofs.Common.{Less, Equal, Greater}
use Rattle.std.specs.Ordering.{nat_cmp}
use Rattle.std.proofs.lemmas.Bool.{ltb-true}
use Rattle.std.proofs.lemmas.Map.Views.{tells_apart}
use Rattle.std.proofs.lemmas.Map.Lookups.{exact_unsigned}
use Rattle.charmlet_model.proofs.Fits.{AllByRecursion-map}

-- a number is found at another only where they are equal
apart : (a b : ℕ) → a ≢ b → is_at (nat_cmp a) b ≡ false
apart a b two = elim (is_at (nat_cmp a) b) as (λ t. is_at (nat_cmp a) b ≡ t → t ≡ false) [
  | true ↦ λ same. absurd (two (tells_apart exact_unsigned a b same))
  | false ↦ λ _. refl
] refl

less-is : (a b : ℕ) → nat_cmp a b ≡ Less → a < b
less-is a b is = elim (nat_lt a b) as (λ t. nat_lt a b ≡ t → cond t Less (cond (a == b) Equal Greater) ≡ Less → a < b) [
  | true ↦ λ less _. ltb-true a b less
  | false ↦ λ _. elim (a == b) as (λ u. cond u Equal Greater ≡ Less → a < b) [
    | true ↦ λ is. absurd (let no : ⊥ = cc in no)
    | false ↦ λ is. absurd (let no : ⊥ = cc in no)
  ]
] refl is

module _ {X : Type 0} where
  -- what isn't above a key isn't among those after it
  none-below : (k h : ℕ) (es : List (ℕ × X)) → k ≤ h → AllByRecursion (λ y. nat_cmp h y ≡ Less) (keys_of es) → lookup (is_at (nat_cmp k)) es ≡ None
  none-below k h [] low above = refl
  none-below k h (e ∷ es) low above =
      let less = less-is h e.0 above.0 in
      ap (λ t. cond t (Some e.1) (lookup (is_at (nat_cmp k)) es)) (apart k e.0 (λ same. omega arith)) ∙ none-below k h es low above.1

  pub count-of-all : (es : List (ℕ × X)) (from n : ℕ) → IsStrictlySortedBy nat_cmp (keys_of es) → AllByRecursion (λ y. from ≤ y) (keys_of es) →
      ((k : ℕ) → from ≤ k → k < from + n → is_some (lookup (is_at (nat_cmp k)) es) ≡ true) → n ≤ length es
  unfolding IsStrictlySortedBy
  count-of-all [] from zero rising low all = omega arith
  count-of-all [] from (suc n) rising low all = let none = all from (omega arith) (omega arith) in absurd (let no : ⊥ = cc in no)
  count-of-all (e ∷ es) from zero rising low all = omega arith
  count-of-all (e ∷ es) from (suc n) rising low all =
      let head : e.0 ≡ from =
      elim (is_at (nat_cmp from) e.0) as (λ t. is_at (nat_cmp from) e.0 ≡ t → is_some (cond t (Some e.1) (lookup (is_at (nat_cmp from)) es)) ≡ true → e.0 ≡ from) [
        | true ↦ λ same _. sym (tells_apart exact_unsigned from e.0 same)
        | false ↦ λ _ some. let none = none-below from e.0 es low.0 rising.0 in let no : true ≡ false = sym some ∙ ap is_some none in absurd (let contra : ⊥ = cc in contra)
      ] refl (all from (omega arith) (omega arith)) in
      omega (
        arith,
        count-of-all es (from + 1) n rising.1
            (AllByRecursion-map (λ y. nat_cmp e.0 y ≡ Less) (λ y. from + 1 ≤ y) (keys_of es) (λ y above. let less = less-is e.0 y above in omega arith) rising.0)
            (λ k over within.
            ap (λ t. is_some (cond t (Some e.1) (lookup (is_at (nat_cmp k)) es))) (sym (apart k e.0 (λ same. omega arith))) ∙ all k (omega arith) (omega arith)),
      )

pub all-low : (xs : List ℕ) → AllByRecursion (λ y. 0 ≤ y) xs
all-low [] = tt
all-low (x ∷ xs) = (omega arith, all-low xs)
