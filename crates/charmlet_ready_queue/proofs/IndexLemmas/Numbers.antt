-- Numbers in rising order, and those of a kind among them.
use Rattle.std.proofs.Common.{◌≡◌, ℕ, ◌+◌, ◌<◌, ◌≤◌, Bool, true, false, not, ◌||◌, List, [], ◌∷◌, ◌++◌, length, filter, refl, sym, ap, subst, ◌∙◌, arith, if◌then◌else◌}
use Rattle.std.specs.Prelude.{◌==◌, nat_lt}
use Rattle.std.specs.List.{AllByRecursion}
use Rattle.charmlet_ready_queue.specs.SeqNos.SeqNos.{AllAfter, AllBefore, Climbs, with_number, without_number}
use Rattle.charmlet_ready_queue.proofs.SeqNosLemmas.Rising.{all_filter, all_left, all_weaker, climbs_filter}
use Rattle.charmlet_ready_queue.specs.Index.Index.{holds}

not_later : (x n : ℕ) → x < n → nat_lt n x ≡ false
not_later x n h = grind arith

unlike : (x n : ℕ) → x < n → (x == n) ≡ false
unlike x n h = grind arith

unlike_too : (x n : ℕ) → n < x → (x == n) ≡ false
unlike_too x n h = grind arith

pub last_with : (xs : List ℕ) (n : ℕ) → AllBefore n xs → xs ++ n ∷ [] ≡ with_number n xs
last_with [] n h = refl
last_with (x ∷ xs) n h = rw (not_later x n h.0) (rw (unlike x n h.0) (ap (λ ys. x ∷ ys) (last_with xs n h.1)))

first_with : (n : ℕ) (xs : List ℕ) → AllAfter n xs → with_number n xs ≡ n ∷ xs
first_with n [] h = refl
first_with n (x ∷ xs) h = grind arith

-- ---- whether one is among them

pub none_after : (n : ℕ) (xs : List ℕ) → AllAfter n xs → holds n xs ≡ false
none_after n [] h = refl
none_after n (x ∷ xs) h = rw (unlike_too x n h.0) (none_after n xs h.1)

pub none_before : (n : ℕ) (xs : List ℕ) → AllBefore n xs → holds n xs ≡ false
none_before n [] h = refl
none_before n (x ∷ xs) h = rw (unlike x n h.0) (none_before n xs h.1)

pub none_without : (n : ℕ) (xs : List ℕ) → holds n (without_number n xs) ≡ false
none_without n [] = refl
none_without n (x ∷ xs) = by (none_without n xs) (x == n) refl
  where
    by : holds n (without_number n xs) ≡ false → (t : Bool) → (x == n) ≡ t → holds n (if not t then x ∷ without_number n xs else without_number n xs) ≡ false
    by more true e = more
    by more false e = rw e more

pub none_filter : (f : ℕ → Bool) (n : ℕ) (xs : List ℕ) → holds n xs ≡ false → holds n (filter f xs) ≡ false
none_filter f n [] h = refl
none_filter f n (x ∷ xs) h = by (none_filter f n xs (rest (x == n) (holds n xs) h)) (f x)
  where
    rest : (s t : Bool) → (s || t) ≡ false → t ≡ false
    rest true t h = cc
    rest false t h = h

    here : (s t : Bool) → (s || t) ≡ false → s ≡ false
    here true t h = cc
    here false t h = refl

    by : holds n (filter f xs) ≡ false → (t : Bool) → holds n (if t then x ∷ filter f xs else filter f xs) ≡ false
    by more true = rw (here (x == n) (holds n xs) h) more
    by more false = more

pub some_filter : (f : ℕ → Bool) (n : ℕ) (xs : List ℕ) → f n ≡ true → holds n xs ≡ true → holds n (filter f xs) ≡ true
some_filter f n [] is h = cc
some_filter f n (x ∷ xs) is h = by (λ k. some_filter f n xs is k) (x == n) refl (f x) refl
  where
    by : (holds n xs ≡ true → holds n (filter f xs) ≡ true) → (s : Bool) → (x == n) ≡ s → (t : Bool) → f x ≡ t → holds n (if t then x ∷ filter f xs else filter f xs) ≡ true
    by more true e true d = rw e refl
    by more true e false d = let same : x ≡ n = grind arith in cc
    by more false e true d = rw e (more (rw e at h))
    by more false e false d = more (rw e at h)

-- ---- those of a kind

-- one that leaves, leaves its kind
pub kind_without : (f : ℕ → Bool) (n : ℕ) (xs : List ℕ) → filter f (without_number n xs) ≡ (if f n then without_number n (filter f xs) else filter f xs)
kind_without f n [] = nothing (f n)
  where
    nothing : (t : Bool) → filter f [] ≡ (if t then without_number n [] else filter f [])
    nothing true = refl
    nothing false = refl
kind_without f n (x ∷ xs) = by (kind_without f n xs) (x == n) refl (f x) refl (f n) refl
  where
    by : filter f (without_number n xs) ≡ (if f n then without_number n (filter f xs) else filter f xs) → (s : Bool) → (x == n) ≡ s → (t : Bool) → f x ≡ t → (u : Bool) → f n ≡ u → filter f (if not s then x ∷ without_number n xs else without_number n xs) ≡ (if u then without_number n (if t then x ∷ filter f xs else filter f xs) else if t then x ∷ filter f xs else filter f xs)
    by more true e true d true c = rw e (rw c at more)
    by more true e true d false c = let same : x ≡ n = grind arith in cc
    by more true e false d true c = let same : x ≡ n = grind arith in cc
    by more true e false d false c = rw c at more
    by more false e true d true c = rw d (rw e (ap (λ ys. x ∷ ys) (rw c at more)))
    by more false e true d false c = rw d (ap (λ ys. x ∷ ys) (rw c at more))
    by more false e false d true c = rw d (rw c at more)
    by more false e false d false c = rw d (rw c at more)

-- for numbers that are all after another, it makes no difference how that is seen
filter_after : (f g : ℕ → Bool) (n : ℕ) → ((m : ℕ) → (m == n) ≡ false → g m ≡ f m) → (xs : List ℕ) → AllAfter n xs → filter g xs ≡ filter f xs
filter_after f g n h [] a = refl
filter_after f g n h (x ∷ xs) a = rw (h x (unlike_too x n a.0)) (rw (filter_after f g n h xs a.1) refl)

-- one that comes, comes to its kind
pub kind_with : (f g : ℕ → Bool) (n : ℕ) → ((m : ℕ) → (m == n) ≡ false → g m ≡ f m) → (xs : List ℕ) → Climbs xs → holds n xs ≡ false → filter g (with_number n xs) ≡ (if g n then with_number n (filter f xs) else filter f xs)
kind_with f g n h [] c none = refl
kind_with f g n h (x ∷ xs) c none = by (λ k. kind_with f g n h xs c.1 k) (nat_lt n x) refl (x == n) refl
  where
    all_after : n < x → AllAfter n (x ∷ xs)
    all_after lt = (lt, all_weaker (λ m. x < m) (λ m. n < m) (λ m more. omega (arith, lt, more)) xs c.0)

    with_first : (u : Bool) → filter g (x ∷ xs) ≡ filter f (x ∷ xs) → with_number n (filter f (x ∷ xs)) ≡ n ∷ filter f (x ∷ xs) → (if u then n ∷ filter g (x ∷ xs) else filter g (x ∷ xs)) ≡ (if u then with_number n (filter f (x ∷ xs)) else filter f (x ∷ xs))
    with_first true same stands = ap (λ ys. n ∷ ys) same ∙ sym stands
    with_first false same stands = same

    step : (t u : Bool) → filter g (with_number n xs) ≡ (if u then with_number n (filter f xs) else filter f xs) → nat_lt n x ≡ false → (x == n) ≡ false → (if t then x ∷ filter g (with_number n xs) else filter g (with_number n xs)) ≡ (if u then with_number n (if t then x ∷ filter f xs else filter f xs) else if t then x ∷ filter f xs else filter f xs)
    step true true m e d = rw e (rw d (ap (λ ys. x ∷ ys) m))
    step true false m e d = ap (λ ys. x ∷ ys) m
    step false u m e d = m

    rest : (s t : Bool) → (s || t) ≡ false → t ≡ false
    rest true t k = cc
    rest false t k = k

    by : (holds n xs ≡ false → filter g (with_number n xs) ≡ (if g n then with_number n (filter f xs) else filter f xs)) → (s : Bool) → nat_lt n x ≡ s → (t : Bool) → (x == n) ≡ t → filter g (if s then n ∷ x ∷ xs else if t then x ∷ xs else x ∷ with_number n xs) ≡ (if g n then with_number n (filter f (x ∷ xs)) else filter f (x ∷ xs))
    by more true e t d =
        let lt : n < x = grind arith in
        with_first (g n) (filter_after f g n h (x ∷ xs) (all_after lt)) (first_with n (filter f (x ∷ xs)) (all_filter (λ m. n < m) f (x ∷ xs) (all_after lt)))
    by more false e true d = let bad : true ≡ false = rw d at none in cc
    by more false e false d = rw (h x d) (step (f x) (g n) (more (rest (x == n) (holds n xs) none)) e d)

-- ---- how many

pub length_without : (n : ℕ) (xs : List ℕ) → Climbs xs → holds n xs ≡ true → length (without_number n xs) + 1 ≡ length xs
length_without n [] c h = cc
length_without n (x ∷ xs) c h = by (λ k. length_without n xs c.1 k) (x == n) refl
  where
    by : (holds n xs ≡ true → length (without_number n xs) + 1 ≡ length xs) → (t : Bool) → (x == n) ≡ t → length (if not t then x ∷ without_number n xs else without_number n xs) + 1 ≡ length (x ∷ xs)
    by more true e =
        let same : x ≡ n = grind arith in
        let all = all_left xs n (subst (λ k. AllAfter k xs) same c.0) in
        rw all (omega arith)
    by more false e = let here = more (rw e at h) in omega (arith, here)

pub length_with : (n : ℕ) (xs : List ℕ) → length (with_number n xs) ≤ length xs + 1
length_with n [] = omega arith
length_with n (x ∷ xs) = by (length_with n xs) (nat_lt n x) (x == n)
  where
    by : length (with_number n xs) ≤ length xs + 1 → (s t : Bool) → length (if s then n ∷ x ∷ xs else if t then x ∷ xs else x ∷ with_number n xs) ≤ length (x ∷ xs) + 1
    by more true t = omega arith
    by more false true = omega arith
    by more false false = omega (arith, more)

pub length_with_new : (n : ℕ) (xs : List ℕ) → holds n xs ≡ false → length (with_number n xs) ≡ length xs + 1
length_with_new n [] h = refl
length_with_new n (x ∷ xs) h = by (λ k. length_with_new n xs k) (nat_lt n x) (x == n) refl
  where
    by : (holds n xs ≡ false → length (with_number n xs) ≡ length xs + 1) → (s t : Bool) → (x == n) ≡ t → length (if s then n ∷ x ∷ xs else if t then x ∷ xs else x ∷ with_number n xs) ≡ length (x ∷ xs) + 1
    by more true t e = omega arith
    by more false true e = let bad : true ≡ false = rw e at h in cc
    by more false false e = let here = more (rw e at h) in omega (arith, here)

pub some_held : (n : ℕ) (xs : List ℕ) → holds n xs ≡ true → 0 < length xs
some_held n [] h = cc
some_held n (x ∷ xs) h = omega arith

pub held_has : (P : ℕ → Type 0) (n : ℕ) (xs : List ℕ) → AllByRecursion P xs → holds n xs ≡ true → P n
held_has P n [] h is = cc
held_has P n (x ∷ xs) h is = by (λ k. held_has P n xs h.1 k) (x == n) refl
  where
    by : (holds n xs ≡ true → P n) → (t : Bool) → (x == n) ≡ t → P n
    by more true e = let same : x ≡ n = grind arith in subst P same h.0
    by more false e = more (rw e at is)

-- one that leaves and comes again
pub with_without : (n : ℕ) (xs : List ℕ) → Climbs xs → holds n xs ≡ true → with_number n (without_number n xs) ≡ xs
with_without n [] c h = cc
with_without n (x ∷ xs) c h = by (λ k. with_without n xs c.1 k) (x == n) refl
  where
    by : (holds n xs ≡ true → with_number n (without_number n xs) ≡ xs) → (t : Bool) → (x == n) ≡ t → with_number n (if not t then x ∷ without_number n xs else without_number n xs) ≡ x ∷ xs
    by more true e =
        let same : x ≡ n = grind arith in
        let after : AllAfter n xs = subst (λ k. AllAfter k xs) same c.0 in
        ap (with_number n) (all_left xs n after) ∙ (first_with n xs after ∙ ap (λ k. k ∷ xs) (sym same))
    by more false e =
        let there = rw e at h in
        let lt : x < n = held_has (λ m. x < m) n xs c.0 there in
        rw (not_later x n lt) (rw e (ap (λ ys. x ∷ ys) (more there)))

-- ---- how many of a kind

abbrev pub bit : Bool → ℕ
bit b = if b then 1 else 0

pub count_without : (f : ℕ → Bool) (n : ℕ) (xs : List ℕ) → Climbs xs → holds n xs ≡ true → length (filter f (without_number n xs)) + bit (f n) ≡ length (filter f xs)
count_without f n xs c h = by (f n) refl (kind_without f n xs)
  where
    by : (t : Bool) → f n ≡ t → filter f (without_number n xs) ≡ (if t then without_number n (filter f xs) else filter f xs) → length (filter f (without_number n xs)) + bit t ≡ length (filter f xs)
    by true e is = rw is (length_without n (filter f xs) (climbs_filter f xs c) (some_filter f n xs e h))
    by false e is = rw is (omega arith)

pub count_with : (f g : ℕ → Bool) (n : ℕ) → ((m : ℕ) → (m == n) ≡ false → g m ≡ f m) → (xs : List ℕ) → Climbs xs → holds n xs ≡ false → length (filter g (with_number n xs)) ≡ length (filter f xs) + bit (g n)
count_with f g n h xs c none = by (g n) (kind_with f g n h xs c none)
  where
    by : (t : Bool) → filter g (with_number n xs) ≡ (if t then with_number n (filter f xs) else filter f xs) → length (filter g (with_number n xs)) ≡ length (filter f xs) + bit t
    by true is = rw is (length_with_new n (filter f xs) (none_filter f n xs none))
    by false is = rw is (omega arith)
