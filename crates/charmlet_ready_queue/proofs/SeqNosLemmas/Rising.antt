-- What stays in rising order.
use Rattle.std.proofs.Common.{◌≡◌, ◌≢◌, ℕ, ◌+◌, ◌<◌, ◌≤◌, suc, Bool, true, false, List, [], ◌∷◌, ◌++◌, length, take, drop, filter, refl, sym, ap, subst, arith, slice_get, add-one, if◌then◌else◌}
use Rattle.std.specs.Prelude.{Some, ◌==◌, nat_lt}
use Rattle.std.specs.List.{AllByRecursion, remove}
use Rattle.charmlet_ready_queue.specs.SeqNos.SeqNos.{AllAfter, AllBefore, AllFrom, Climbs, with_number, without_number}

pub all_weaker : {X : Type 0} (P Q : X → Type 0) → ((x : X) → P x → Q x) → (xs : List X) → AllByRecursion P xs → AllByRecursion Q xs
all_weaker P Q f [] h = tt
all_weaker P Q f (x ∷ xs) h = (f x h.0, all_weaker P Q f xs h.1)

pub all_append : {X : Type 0} (P : X → Type 0) (xs ys : List X) → AllByRecursion P xs → AllByRecursion P ys → AllByRecursion P (xs ++ ys)
all_append P [] ys h k = k
all_append P (x ∷ xs) ys h k = (h.0, all_append P xs ys h.1 k)

pub all_at : (P : ℕ → Type 0) (xs : List ℕ) (i n : ℕ) → AllByRecursion P xs → slice_get xs i ≡ Some n → P n
all_at P [] i n h is = cc
all_at P (x ∷ xs) Prim.Native.Nat.zero n h is = let same : x ≡ n = cc in subst P same h.0
all_at P (x ∷ xs) (suc i) n h is = all_at P xs i n h.1 is

pub all_filter : (P : ℕ → Type 0) (p : ℕ → Bool) (xs : List ℕ) → AllByRecursion P xs → AllByRecursion P (filter p xs)
all_filter P p [] h = tt
all_filter P p (x ∷ xs) h =
    elim (p x) as (λ b. AllByRecursion P (if b then x ∷ filter p xs else filter p xs)) [
      | true ↦ (h.0, all_filter P p xs h.1)
      | false ↦ all_filter P p xs h.1
    ]

pub climbs_filter : (p : ℕ → Bool) (xs : List ℕ) → Climbs xs → Climbs (filter p xs)
climbs_filter p [] c = tt
climbs_filter p (x ∷ xs) c =
    elim (p x) as (λ b. Climbs (if b then x ∷ filter p xs else filter p xs)) [
      | true ↦ (all_filter (λ m. x < m) p xs c.0, climbs_filter p xs c.1)
      | false ↦ climbs_filter p xs c.1
    ]

-- ---- places

-- of climbing numbers, those before one that isn't after n are before n
pub before_one : (xs : List ℕ) (i m n : ℕ) → Climbs xs → slice_get xs i ≡ Some m → m ≤ n → AllBefore n (take i xs)
before_one [] Prim.Native.Nat.zero m n c is le = tt
before_one [] (suc i) m n c is le = tt
before_one (x ∷ xs) Prim.Native.Nat.zero m n c is le = tt
before_one (x ∷ xs) (suc i) m n c is le = let lt : x < m = all_at (λ k. x < k) xs i m c.0 is in (omega (arith, lt, le), before_one xs i m n c.1 is le)

up_to_this : (xs : List ℕ) (i m n : ℕ) → Climbs xs → slice_get xs i ≡ Some m → m < n → AllBefore n (take (suc i) xs)
up_to_this [] i m n c is lt = cc
up_to_this (x ∷ xs) Prim.Native.Nat.zero m n c is lt = let same : x ≡ m = cc in (subst (λ k. k < n) (sym same) lt, tt)
up_to_this (x ∷ xs) (suc i) m n c is lt = let less : x < m = all_at (λ k. x < k) xs i m c.0 is in (omega (arith, less, lt), up_to_this xs i m n c.1 is lt)

pub up_to_one : (xs : List ℕ) (i m n : ℕ) → Climbs xs → slice_get xs i ≡ Some m → m < n → AllBefore n (take (i + 1) xs)
up_to_one xs i m n c is lt = rw add-one (up_to_this xs i m n c is lt)

-- and those from one on that isn't before n aren't either
pub from_one : (xs : List ℕ) (i m n : ℕ) → Climbs xs → slice_get xs i ≡ Some m → n ≤ m → AllFrom n (drop i xs)
from_one [] i m n c is le = cc
from_one (x ∷ xs) Prim.Native.Nat.zero m n c is le =
    let same : x ≡ m = cc in
    let here : n ≤ x = subst (λ k. n ≤ k) (sym same) le in
    (here, all_weaker (λ k. x < k) (λ k. n ≤ k) (λ k lt. omega (arith, here, lt)) xs c.0)
from_one (x ∷ xs) (suc i) m n c is le = from_one xs i m n c.1 is le

pub none_behind : {X : Type 0} (xs : List X) → drop (length xs) xs ≡ []
none_behind [] = refl
none_behind (x ∷ xs) = none_behind xs

-- ---- one that leaves

unlike : (a b : ℕ) → a < b → (a == b) ≡ false
unlike a b h = grind arith

unlike_too : (a b : ℕ) → a < b → (b == a) ≡ false
unlike_too a b h = grind arith

like : (a b : ℕ) → a ≡ b → (a == b) ≡ true
like a b h = grind arith

pub all_left : (xs : List ℕ) (n : ℕ) → AllAfter n xs → without_number n xs ≡ xs
all_left [] n h = refl
all_left (x ∷ xs) n h = rw (unlike_too n x h.0) (ap (λ ys. x ∷ ys) (all_left xs n h.1))

pub removed : (xs : List ℕ) (i n : ℕ) → Climbs xs → slice_get xs i ≡ Some n → remove xs i ≡ without_number n xs
removed [] i n c is = cc
removed (x ∷ xs) Prim.Native.Nat.zero n c is =
    let same : x ≡ n = cc in
    rw (like x n same) (sym (all_left xs n (subst (λ k. AllAfter k xs) same c.0)))
removed (x ∷ xs) (suc i) n c is =
    let before : x < n = all_at (λ k. x < k) xs i n c.0 is in
    rw (unlike x n before) (ap (λ ys. x ∷ ys) (removed xs i n c.1 is))

-- where those before a place are before n, and the one there isn't n, nor those behind it, none is n
pub none_here : (xs : List ℕ) (p n : ℕ) → AllBefore n (take p xs) → AllAfter n (drop p xs) → without_number n xs ≡ xs
none_here xs Prim.Native.Nat.zero n b a = all_left xs n a
none_here [] (suc p) n b a = refl
none_here (x ∷ xs) (suc p) n b a = rw (unlike x n b.0) (ap (λ ys. x ∷ ys) (none_here xs p n b.1 a))

-- those from n on are after it, where the first of them isn't it
pub all_behind : (xs : List ℕ) (p m n : ℕ) → Climbs xs → AllFrom n (drop p xs) → slice_get xs p ≡ Some m → m ≢ n → AllAfter n (drop p xs)
all_behind [] p m n c f is apart = cc
all_behind (x ∷ xs) Prim.Native.Nat.zero m n c f is apart =
    let same : x ≡ m = cc in
    let here : n < x = omega (arith, f.0, same, apart) in
    (here, all_weaker (λ k. x < k) (λ k. n < k) (λ k lt. omega (arith, here, lt)) xs c.0)
all_behind (x ∷ xs) (suc p) m n c f is apart = all_behind xs p m n c.1 f is apart

-- ---- one that comes

first_with : (xs : List ℕ) (n : ℕ) → AllAfter n xs → with_number n xs ≡ n ∷ xs
first_with [] n h = refl
first_with (x ∷ xs) n h = grind arith

later : (x n : ℕ) → x < n → nat_lt n x ≡ false
later x n h = grind arith

pub put_there : (xs : List ℕ) (p n : ℕ) → AllBefore n (take p xs) → AllAfter n (drop p xs) → with_number n xs ≡ take p xs ++ n ∷ drop p xs
put_there xs Prim.Native.Nat.zero n b a = first_with xs n a
put_there [] (suc p) n b a = refl
put_there (x ∷ xs) (suc p) n b a = rw (later x n b.0) (rw (unlike x n b.0) (ap (λ ys. x ∷ ys) (put_there xs p n b.1 a)))

pub is_there : (xs : List ℕ) (i n : ℕ) → Climbs xs → slice_get xs i ≡ Some n → with_number n xs ≡ xs
is_there [] i n c is = cc
is_there (x ∷ xs) Prim.Native.Nat.zero n c is = grind arith
is_there (x ∷ xs) (suc i) n c is =
    let before : x < n = all_at (λ k. x < k) xs i n c.0 is in
    rw (later x n before) (rw (unlike x n before) (ap (λ ys. x ∷ ys) (is_there xs i n c.1 is)))

pub all_with : (P : ℕ → Type 0) (xs : List ℕ) (n : ℕ) → AllByRecursion P xs → P n → AllByRecursion P (with_number n xs)
all_with P [] n h k = (k, tt)
all_with P (x ∷ xs) n h k =
    elim (nat_lt n x) as (λ b. AllByRecursion P (if b then n ∷ x ∷ xs else if x == n then x ∷ xs else x ∷ with_number n xs)) [
      | true ↦ (k, h)
      | false ↦ elim (x == n) as (λ b. AllByRecursion P (if b then x ∷ xs else x ∷ with_number n xs)) [
        | true ↦ h
        | false ↦ (h.0, all_with P xs n h.1 k)
      ]
    ]

pub climbs_with : (xs : List ℕ) (n : ℕ) → Climbs xs → Climbs (with_number n xs)
climbs_with [] n c = (tt, tt)
climbs_with (x ∷ xs) n c = by (climbs_with xs n c.1) (nat_lt n x) refl (x == n) refl
  where
    by : Climbs (with_number n xs) → (b : Bool) → nat_lt n x ≡ b → (d : Bool) → (x == n) ≡ d → Climbs (if b then n ∷ x ∷ xs else if d then x ∷ xs else x ∷ with_number n xs)
    by more true e d f = let lt : n < x = grind arith in ((lt, all_weaker (λ k. x < k) (λ k. n < k) (λ k after. omega (arith, lt, after)) xs c.0), c)
    by more false e true f = c
    by more false e false f = let lt : x < n = grind arith in (all_with (λ k. x < k) xs n c.0 lt, more)

pub climbs_last : (xs : List ℕ) (n : ℕ) → Climbs xs → AllBefore n xs → Climbs (xs ++ n ∷ [])
climbs_last [] n c h = (tt, tt)
climbs_last (x ∷ xs) n c h = (all_append (λ k. x < k) xs (n ∷ []) c.0 (h.0, tt), climbs_last xs n c.1 h.1)
