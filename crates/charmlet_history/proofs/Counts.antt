-- How many processors have an assigned message.
use Rattle.std.proofs.Common.{◌≡◌, ℕ, ◌+◌, ◌<◌, ◌≤◌, ◌==◌, true, false, cond, List, [], ◌∷◌, length, refl, ap, arith, nat_lt}
use Rattle.std.specs.Prelude.{Some, is_some, suc}
use Rattle.std.proofs.lemmas.Bool.{ltb-true}
use Rattle.std.specs.declared.cmp.Ordering.TheVariants.{Less, Equal, Greater}
use Rattle.std.specs.Ordering.{nat_cmp}
use Rattle.std.specs.Cmp.{nat_cmp_total}
use Rattle.std.specs.BTreeMap.{is_at}
use Rattle.std.specs.List.{AllByRecursion}
use Rattle.std.specs.List.Sorted.{IsStrictlySortedBy}
use Rattle.std.specs.Map.{keys_of, lookup}
use Rattle.std.proofs.lemmas.Cmp.{eq_by_cmp_equiv}
use Rattle.charmlet_model.proofs.Fits.{AllByRecursion-map}

less-is : (a b : ℕ) → nat_cmp a b ≡ Less → a < b
less-is a b is = elim (nat_lt a b) as (λ t. nat_lt a b ≡ t → cond t Less (cond (a == b) Equal Greater) ≡ Less → a < b) [
  | true ↦ λ less _. ltb-true a b less
  | false ↦ λ _. elim (a == b) as (λ u. cond u Equal Greater ≡ Less → a < b) [
    | true ↦ λ is. absurd (let no : ⊥ = cc in no)
    | false ↦ λ is. absurd (let no : ⊥ = cc in no)
  ]
] refl is

-- numbers that rise from one to below another are no more than fit between
between : (ks : List ℕ) (from n : ℕ) → IsStrictlySortedBy nat_cmp ks → AllByRecursion (λ k. from ≤ k) ks → AllByRecursion (λ k. k < n) ks → from ≤ n → from + length ks ≤ n
unfolding IsStrictlySortedBy
between [] from n rising low below some = omega arith
between (k ∷ ks) from n rising low below some =
    let above = AllByRecursion-map (λ q. nat_cmp k q ≡ Less) (λ q. suc k ≤ q) ks (λ q less. let is = less-is k q less in omega arith) rising.0 in
    let rest = between ks (suc k) n rising.1 above below.1 (let here = below.0 in omega arith) in
    let first = low.0 in
    omega arith

all_low : (ks : List ℕ) → AllByRecursion (λ k. 0 ≤ k) ks
all_low [] = tt
all_low (k ∷ ks) = (omega arith, all_low ks)

module _ {X : Type 0} where
  -- each key is found
  each_below : (es : List (ℕ × X)) (n : ℕ) → ((p : ℕ) → is_some (lookup (is_at (nat_cmp p)) es) ≡ true → p < n) → AllByRecursion (λ p. p < n) (keys_of es)
  each_below [] n h = tt
  each_below (e ∷ es) n h = (
    h e.0 (ap (λ b. is_some (cond b (Some e.1) (lookup (is_at (nat_cmp e.0)) es))) ((eq_by_cmp_equiv nat_cmp_total).refl e.0)),
    each_below es n (λ p there. h p (later p there)),
  )
    where
      later : (p : ℕ) → is_some (lookup (is_at (nat_cmp p)) es) ≡ true → is_some (lookup (is_at (nat_cmp p)) (e ∷ es)) ≡ true
      later p there = elim (is_at (nat_cmp p) e.0) as (λ b. is_some (cond b (Some e.1) (lookup (is_at (nat_cmp p)) es)) ≡ true) [ true ↦ refl | false ↦ there ]

  -- entries of rising numbers below n are at most n
  pub at_most : (es : List (ℕ × X)) (n : ℕ) → IsStrictlySortedBy nat_cmp (keys_of es) → ((p : ℕ) → is_some (lookup (is_at (nat_cmp p)) es) ≡ true → p < n) → length (keys_of es) ≤ n
  at_most es n rising h = let count = between (keys_of es) 0 n rising (all_low (keys_of es)) (each_below es n h) (omega arith) in omega arith
