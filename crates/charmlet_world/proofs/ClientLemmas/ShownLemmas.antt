-- What the durable row has of the present window's items.
use Rattle.std.proofs.Common.{◌≡◌, ℕ, ◌≤◌, List, [], ◌∷◌, ◌++◌, length, get_or, set, replicate, refl, sym, ap, zero, suc, arith, Bool, true, false}
use Rattle.std.specs.Prelude.{Option, None, if◌then◌else◌}
use Rattle.charmlet_world.specs.Client.Client.{shown}

-- items after the others are not durable
pub shown-append : (bs : List Bool) (xs ys : List (Option (List ℕ))) → length bs ≤ length xs → shown bs (xs ++ ys) ≡ shown bs xs
shown-append [] xs ys h = refl
shown-append (b ∷ bs) [] ys h = absurd (omega arith)
shown-append (b ∷ bs) (x ∷ xs) ys h = ap (λ (r : List (Option (List ℕ))). (if b then x else None) ∷ r) (shown-append bs xs ys (omega arith))

-- a reply that comes isn't durable
pub shown-set : (bs : List Bool) (xs : List (Option (List ℕ))) (i : ℕ) (x : Option (List ℕ)) → get_or xs i None ≡ None → shown (set bs i false) (set xs i x) ≡ shown bs xs
shown-set [] xs i x h = refl
shown-set (b ∷ bs) [] zero x h = refl
shown-set (b ∷ bs) [] (suc i) x h = refl
shown-set (true ∷ bs) (y ∷ xs) zero x h = ap (λ (r : Option (List ℕ)). r ∷ shown bs xs) (sym h)
shown-set (false ∷ bs) (y ∷ xs) zero x h = refl
shown-set (b ∷ bs) (y ∷ xs) (suc i) x h = ap (λ (r : List (Option (List ℕ))). (if b then y else None) ∷ r) (shown-set bs xs i x h)

-- all replies are durable
pub shown-all : (xs : List (Option (List ℕ))) → shown (replicate (length xs) true) xs ≡ xs
shown-all [] = refl
shown-all (x ∷ xs) = ap (λ (r : List (Option (List ℕ))). x ∷ r) (shown-all xs)

pub length-shown : (bs : List Bool) (xs : List (Option (List ℕ))) → length bs ≤ length xs → length (shown bs xs) ≡ length bs
length-shown [] xs h = refl
length-shown (b ∷ bs) [] h = absurd (omega arith)
length-shown (b ∷ bs) (x ∷ xs) h = ap suc (length-shown bs xs (omega arith))

-- an item whose reply is durable
pub get_or-shown_true : (bs : List Bool) (xs : List (Option (List ℕ))) (i : ℕ) → get_or bs i false ≡ true → get_or (shown bs xs) i None ≡ get_or xs i None
get_or-shown_true [] xs i h = absurd (cc)
get_or-shown_true (b ∷ bs) [] i h = refl
get_or-shown_true (true ∷ bs) (x ∷ xs) zero h = refl
get_or-shown_true (false ∷ bs) (x ∷ xs) zero h = absurd (cc)
get_or-shown_true (b ∷ bs) (x ∷ xs) (suc i) h = get_or-shown_true bs xs i h

-- an item whose reply isn't
pub get_or-shown_false : (bs : List Bool) (xs : List (Option (List ℕ))) (i : ℕ) → get_or bs i false ≡ false → get_or (shown bs xs) i None ≡ None
get_or-shown_false [] xs i h = refl
get_or-shown_false (b ∷ bs) [] i h = refl
get_or-shown_false (true ∷ bs) (x ∷ xs) zero h = absurd (cc)
get_or-shown_false (false ∷ bs) (x ∷ xs) zero h = refl
get_or-shown_false (b ∷ bs) (x ∷ xs) (suc i) h = get_or-shown_false bs xs i h
