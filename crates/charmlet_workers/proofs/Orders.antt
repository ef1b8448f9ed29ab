-- Shelves in the order of their numbers.
use Rattle.std.proofs.Common.{◌≡◌, ℕ, zero, suc, ◌+◌, ◌<◌, List, [], ◌∷◌, drop, get_or, length, map, refl, sym, ap, ◌∙◌, arith}
use Rattle.std.specs.List.{range_with_len}
use Rattle.charmlet_locks.specs.Locks.{AreInOrder}
use Rattle.charmlet_migrate.specs.StoreParts.{AreNumbered}
use Rattle.charmlet_shelf.specs.Shelf.{View}

abbrev pub number_of : View → ℕ
number_of shelf = shelf.number

-- they have the numbers from this one on
abbrev pub AreFrom : (first : ℕ) → List View → Type 0
AreFrom first shelves = map number_of shelves ≡ range_with_len first (length shelves)

pub first_number : (first : ℕ) (shelves : List View) (other : View) → 0 < length shelves → AreFrom first shelves → (get_or shelves 0 other).number ≡ first
first_number first [] other any order = absurd (omega arith)
first_number first (shelf ∷ shelves) other any order = ap (λ (numbers : List ℕ). get_or numbers 0 0) order

pub other_numbers : (first : ℕ) (shelves : List View) → 0 < length shelves → AreFrom first shelves → AreFrom (first + 1) (drop 1 shelves)
other_numbers first [] any order = absurd (omega arith)
other_numbers first (shelf ∷ shelves) any order = ap (λ (numbers : List ℕ). drop 1 numbers) order

range_counts : (first n : ℕ) → length (range_with_len first n) ≡ n
range_counts first zero = refl
range_counts first (suc n) = ap suc (range_counts (first + 1) n)

numbers_count : (shelves : List View) → length (map number_of shelves) ≡ length shelves
numbers_count [] = refl
numbers_count (shelf ∷ shelves) = ap suc (numbers_count shelves)

pub ordered_count : (n : ℕ) (shelves : List View) → AreInOrder number_of n shelves → length shelves ≡ n
ordered_count n shelves order = sym (numbers_count shelves) ∙ ap length order ∙ range_counts 0 n

pub ordered_from : (n : ℕ) (shelves : List View) → AreInOrder number_of n shelves → AreFrom 0 shelves
ordered_from n shelves order = order ∙ ap (range_with_len 0) (sym (ordered_count n shelves order))

numbered_from : (first : ℕ) (shelves : List View) → ((k : ℕ) (shelf : View) → k < length shelves → (get_or shelves k shelf).number ≡ first + k) → AreFrom first shelves
numbered_from first [] numbers = refl
numbered_from first (shelf ∷ shelves) numbers =
    let zeroth = numbers 0 shelf (omega arith) in
    let here : shelf.number ≡ first = omega arith in
    let others = numbered_from (first + 1) shelves (λ k other within. let it = numbers (suc k) other (omega (arith, within)) in omega (arith, it)) in
    ap (λ (n : ℕ). n ∷ map number_of shelves) here ∙ ap (λ (numbers : List ℕ). first ∷ numbers) others

pub numbered_in_order : (n : ℕ) (shelves : List View) → length shelves ≡ n → AreNumbered shelves → AreInOrder number_of n shelves
numbered_in_order n shelves count numbers = numbered_from 0 shelves (λ k shelf within. let it = numbers k shelf within in omega (arith, it)) ∙ ap (range_with_len 0) count
