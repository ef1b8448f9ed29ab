-- Passes by their places.
use Rattle.std.proofs.Common.{◌≡◌, ◌≢◌, ◌⊎◌, inl, inr, ⊎_elim, ℕ, zero, suc, ◌+◌, ◌<◌, List, [], ◌∷◌, ◌++◌, length, get_or, map, take, drop, Option, Some, None, refl, ap, sym, subst, arith}
use Rattle.std.specs.Prelude.{slice_get, slice_set}
use Rattle.std.specs.List.{AllByRecursion}
use Rattle.charmlet_leases.specs.Passes.Passes.{HeldPass, LentPasses, IsKept, passes_out}

module _ {A : Type 0} where
  -- what stands in a list with one more is what stood there, or the new one at the end
  pub at_end : (xs : List A) (a b : A) (n : ℕ) → slice_get (xs ++ a ∷ []) n ≡ Some b → (slice_get xs n ≡ Some b) ⊎ ((a ≡ b) × (n ≡ length xs))
  at_end [] a b zero e = inr (cc, refl)
  at_end [] a b (suc n) e = absurd (cc)
  at_end (x ∷ xs) a b zero e = inl e
  at_end (x ∷ xs) a b (suc n) e = ⊎_elim (λ t. inl t) (λ (t : (a ≡ b) × (n ≡ length xs)). inr (t.0, ap suc t.1)) (at_end xs a b n e)

  -- what stands in a list in which one was set
  pub at_set : (xs : List A) (place : ℕ) (a b : A) (n : ℕ) → slice_get (slice_set xs place a) n ≡ Some b → ((n ≡ place) × (a ≡ b)) ⊎ ((n ≢ place) × (slice_get xs n ≡ Some b))
  at_set [] place a b n e = absurd (cc)
  at_set (x ∷ xs) zero a b zero e = inl (refl, cc)
  at_set (x ∷ xs) zero a b (suc n) e = inr ((λ s. absurd (omega arith)), e)
  at_set (x ∷ xs) (suc place) a b zero e = inr ((λ s. absurd (omega arith)), e)
  at_set (x ∷ xs) (suc place) a b (suc n) e =
      ⊎_elim (λ (t : (n ≡ place) × (a ≡ b)). inl (ap suc t.0, t.1)) (λ (t : (n ≢ place) × (slice_get xs n ≡ Some b)). inr ((λ s. t.0 (omega arith)), t.1)) (at_set xs place a b n e)

  -- what stood in a list in which one was set was that one, or still stands there
  pub was_at : (xs : List A) (place : ℕ) (a b c : A) (n : ℕ) → slice_get xs place ≡ Some a → slice_get xs n ≡ Some b → (a ≡ b) ⊎ (slice_get (slice_set xs place c) n ≡ Some b)
  was_at [] place a b c n there e = absurd (cc)
  was_at (x ∷ xs) zero a b c zero there e = inl (cc)
  was_at (x ∷ xs) zero a b c (suc n) there e = inr e
  was_at (x ∷ xs) (suc place) a b c zero there e = inr e
  was_at (x ∷ xs) (suc place) a b c (suc n) there e = was_at xs place a b c n there e

  -- one that is as it was
  pub set-same : (xs : List A) (place : ℕ) (a : A) → slice_get xs place ≡ Some a → slice_set xs place a ≡ xs
  set-same [] place a at = refl
  set-same (x ∷ xs) zero a at = let same : x ≡ a = cc in ap (λ z. z ∷ xs) (sym same)
  set-same (x ∷ xs) (suc place) a at = ap (λ l. x ∷ l) (set-same xs place a at)

  pub all-last : (P : A → Type 0) (xs : List A) (x : A) → AllByRecursion P xs → P x → AllByRecursion P (xs ++ x ∷ [])
  all-last P [] x all is = (is, tt)
  all-last P (y ∷ xs) x all is = (all.0, all-last P xs x all.1 is)

  -- the next one of a list is changed
  pub next-changed : (f : A → A) (xs : List A) (i : ℕ) (x : A) → slice_get (map f (take i xs) ++ drop i xs) i ≡ Some x →
      slice_set (map f (take i xs) ++ drop i xs) i (f x) ≡ map f (take (suc i) xs) ++ drop (suc i) xs
  next-changed f [] zero x at = absurd (cc)
  next-changed f [] (suc i) x at = absurd (cc)
  next-changed f (y ∷ xs) zero x at = let same : y ≡ x = cc in ap (λ z. f z ∷ xs) (sym same)
  next-changed f (y ∷ xs) (suc i) x at = ap (λ l. f y ∷ l) (next-changed f xs i x at)

  -- and is the first of those that are left
  pub next-left : (f : A → A) (xs : List A) (i : ℕ) (x : A) → slice_get (map f (take i xs) ++ drop i xs) i ≡ Some x → drop i xs ≡ x ∷ drop (suc i) xs
  next-left f [] zero x at = absurd (cc)
  next-left f [] (suc i) x at = absurd (cc)
  next-left f (y ∷ xs) zero x at = let same : y ≡ x = cc in ap (λ z. z ∷ xs) same
  next-left f (y ∷ xs) (suc i) x at = next-left f xs i x at

  -- what is true of those before it and of the next one is true of one more
  pub all-next : (P : A → Type 0) (f : A → A) (xs : List A) (i : ℕ) (x : A) → slice_get (map f (take i xs) ++ drop i xs) i ≡ Some x → AllByRecursion P (take i xs) → P x → AllByRecursion P (take (suc i) xs)
  all-next P f [] zero x at all is = absurd (cc)
  all-next P f [] (suc i) x at all is = absurd (cc)
  all-next P f (y ∷ xs) zero x at all is = let same : x ≡ y = cc in (subst P same is, tt)
  all-next P f (y ∷ xs) (suc i) x at all is = (all.0, all-next P f xs i x at all.1 is)

  pub found : (xs : List A) (i : ℕ) (x : A) → i < length xs → x ≡ get_or xs i x → slice_get xs i ≡ Some x
  found [] i x within is = absurd (omega arith)
  found (y ∷ xs) zero x within is = cc
  found (y ∷ xs) (suc i) x within is = found xs i x (omega arith) is

-- how many are out

pub count-without : (held : List (Option HeldPass)) (place : ℕ) (h : HeldPass) → slice_get held place ≡ Some (Some h) → length (passes_out (slice_set held place None)) + 1 ≡ length (passes_out held)
count-without [] place h at = absurd (cc)
count-without (None ∷ held) zero h at = absurd (cc)
count-without (Some g ∷ held) zero h at = omega arith
count-without (None ∷ held) (suc place) h at = count-without held place h at
count-without (Some g ∷ held) (suc place) h at = omega (arith, count-without held place h at)

pub count-set : (held : List (Option HeldPass)) (place : ℕ) (h g : HeldPass) → slice_get held place ≡ Some (Some h) → length (passes_out (slice_set held place (Some g))) ≡ length (passes_out held)
count-set [] place h g at = absurd (cc)
count-set (None ∷ held) zero h g at = absurd (cc)
count-set (Some x ∷ held) zero h g at = refl
count-set (None ∷ held) (suc place) h g at = count-set held place h g at
count-set (Some x ∷ held) (suc place) h g at = ap suc (count-set held place h g at)

pub count-lent : (held : List (Option HeldPass)) (h : HeldPass) → length (passes_out (held ++ Some h ∷ [])) ≡ length (passes_out held) + 1
count-lent [] h = omega arith
count-lent (None ∷ held) h = count-lent held h
count-lent (Some g ∷ held) h = omega (arith, count-lent held h)

-- where none is out, none stands at a place
pub none-at : (held : List (Option HeldPass)) (place : ℕ) (h : HeldPass) → length (passes_out held) ≡ 0 → slice_get held place ≡ Some (Some h) → ⊥
none-at [] place h none at = cc
none-at (None ∷ held) zero h none at = cc
none-at (None ∷ held) (suc place) h none at = none-at held place h none at
none-at (Some g ∷ held) place h none at = absurd (omega arith)

-- a pass that is as it was
pub kept-same : (passes : LentPasses) (place : ℕ) (h : HeldPass) → slice_get passes.held place ≡ Some (Some h) → IsKept passes passes h h
kept-same passes place h at = record {
  place = place;
  had = at;
  has = sym (set-same passes.held place (Some h) at);
  out = refl;
}
