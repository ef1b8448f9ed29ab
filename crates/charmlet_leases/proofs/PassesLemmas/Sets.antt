-- Sets of numbers, as rising lists.
use Rattle.std.proofs.Common.{Less, Equal, Greater, Bool, ◌≡◌, ℕ, ◌+◌, true, false, ◌||◌, List, [], ◌∷◌, length, refl, ap, arith}
use Rattle.std.specs.Ordering.{nat_cmp, match_ordering, is_eq}
use Rattle.std.specs.BTreeMap.{is_at}
use Rattle.std.specs.BTreeSet.{insert_key}
use Rattle.charmlet_model.proofs.Fits.{tied_itself-nat}
use Rattle.charmlet_requests.specs.Pass.{is_out}

or-left : (a b : Bool) → a ≡ true → (a || b) ≡ true
or-left a b h = ap (λ t. t || b) h

or-right : (a b : Bool) → b ≡ true → (a || b) ≡ true
or-right true b h = refl
or-right false b h = h

or-false : (a b : Bool) → (a || b) ≡ false → b ≡ false
or-false true b h = absurd (let no : ⊥ = cc in no)
or-false false b h = h

-- one that was put in is there
pub out-put : (keys : List ℕ) (k : ℕ) → is_out k (insert_key nat_cmp keys k) ≡ true
out-put [] k = or-left (is_at (nat_cmp k) k) false (tied_itself-nat k)
out-put (x ∷ xs) k =
    elim (nat_cmp k x) as (λ o. nat_cmp k x ≡ o → is_out k (match_ordering o (k ∷ x ∷ xs) (x ∷ xs) (x ∷ insert_key nat_cmp xs k)) ≡ true) [
      | Less ↦ λ _. or-left (is_at (nat_cmp k) k) (is_out k (x ∷ xs)) (tied_itself-nat k)
      | Equal ↦ λ same. or-left (is_at (nat_cmp k) x) (is_out k xs) (ap is_eq same)
      | Greater ↦ λ _. or-right (is_at (nat_cmp k) x) (is_out k (insert_key nat_cmp xs k)) (out-put xs k)
    ] refl

-- and those that were there still are
pub out-still : (keys : List ℕ) (k c : ℕ) → is_out c keys ≡ true → is_out c (insert_key nat_cmp keys k) ≡ true
out-still [] k c h = absurd (let no : ⊥ = cc in no)
out-still (x ∷ xs) k c h =
    elim (nat_cmp k x) as (λ o. is_out c (match_ordering o (k ∷ x ∷ xs) (x ∷ xs) (x ∷ insert_key nat_cmp xs k)) ≡ true) [
      | Less ↦ or-right (is_at (nat_cmp c) k) (is_out c (x ∷ xs)) h
      | Equal ↦ h
      | Greater ↦
          elim (is_at (nat_cmp c) x) as (λ b. (b || is_out c xs) ≡ true → (b || is_out c (insert_key nat_cmp xs k)) ≡ true) [
            | true ↦ λ _. refl
            | false ↦ out-still xs k c
          ] h
    ]

-- and if it wasn't, there is one more
pub length-out : (keys : List ℕ) (k : ℕ) → is_out k keys ≡ false → length (insert_key nat_cmp keys k) ≡ length keys + 1
length-out [] k none = omega arith
length-out (x ∷ xs) k none =
    elim (nat_cmp k x) as (λ o. nat_cmp k x ≡ o → length (match_ordering o (k ∷ x ∷ xs) (x ∷ xs) (x ∷ insert_key nat_cmp xs k)) ≡ length (x ∷ xs) + 1) [
      | Less ↦ λ _. omega arith
      | Equal ↦ λ same. absurd (let there : is_out k (x ∷ xs) ≡ true = or-left (is_at (nat_cmp k) x) (is_out k xs) (ap is_eq same) in let no : ⊥ = cc in no)
      | Greater ↦ λ _. omega (arith, length-out xs k (or-false (is_at (nat_cmp k) x) (is_out k xs) none))
    ] refl
