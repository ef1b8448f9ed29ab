-- Decimal numbers.
use Rattle.std.proofs.Common.{◌≡◌, ◌+◌, ◌++◌, map, drop, get_or, sym, ap, ◌∙◌, append_assoc, ◌<◌, ◌≤◌, if◌then◌else◌, ◌^◌, inl, inr, ℕ, List, [], ◌∷◌, Bool, true, false, cond, length, nat_lt, ◌&&◌, rules, arith, Option, Some, None, Result, Ok, Err, refl}
use Rattle.std.specs.Char.{is_ascii_digit}
use Rattle.std.specs.List.{list_all}
use Rattle.std.specs.Str.{IsAscii, IsUtf8}
use Rattle.std.specs.Str.Parse.{digits_value, ParsesUnsigned}
use Rattle.std.proofs.lemmas.Str.{IsUtf8-from_ascii}
use Rattle.std.proofs.lemmas.Str.Ascii.{IsAscii-nil, IsAscii-cons}
use Rattle.std.proofs.lemmas.Str.Parse.{IsNumeralModel, IsDigitsTest, numerals_by_value, parse_digits}
use Rattle.std.proofs.lemmas.Bool.Decides.{nat_tests}
use Rattle.std.proofs.lemmas.Bool.{cases_lt}
use Rattle.std.proofs.lemmas.Result.{OkIff-at_ok, OkIff-at_err}
use Rattle.std.specs.Option.{option_map}
use Rattle.std.proofs.lemmas.List.{drop_more, at_drop_all, append-nil}
use Rattle.charmlet_script.specs.Line.{◌>>=◌, number_of, numbers_of}

abbrev pub AreDigits : List ℕ → Type 0
AreDigits ds = list_all is_ascii_digit ds ≡ true

tells : IsDigitsTest AreDigits
tells = search rules

-- the words that `number_of` tests, as `parse` reads them
pub decimal_words : IsNumeralModel AreDigits (digits_value 10)
decimal_words = numerals_by_value AreDigits tells

are_ascii : (ds : List ℕ) → AreDigits ds → IsAscii ds
are_ascii [] h = IsAscii-nil
are_ascii (d ∷ ds) h =
    let p = tells.parts d ds h in
    IsAscii-cons d ds (omega (arith, p.0)) (are_ascii ds p.1)

-- digits are text
pub are_text : (ds : List ℕ) → AreDigits ds → IsUtf8 ds
are_text ds h = IsUtf8-from_ascii ds (are_ascii ds h)

neither : (k v top : ℕ) → ((0 < k) × (v < top) → ⊥) → cond (nat_lt 0 k && nat_lt v top) (Some v) None ≡ None
neither k v top h =
    elim (cases_lt 0 k) [
      | inl some ↦ elim (cases_lt v top) [
        | inl fits ↦ absurd (h (some, fits))
        | inr wide ↦ grind (arith, nat_tests)
      ]
      | inr none ↦ grind (arith, nat_tests)
    ]

-- what `parse` makes of digits is what `number_of` says
pub parsed_some : {E : Type 0} (bits : ℕ) (word : List ℕ) (n : ℕ) (r : Result ℕ E) → AreDigits word → ParsesUnsigned bits 10 word r → r ≡ Ok n → number_of bits word ≡ Some n
unfolding number_of
parsed_some {E = E} bits word n r digits h e =
    let p = parse_digits decimal_words bits word r h digits in
    let q = OkIff-at_ok r ((0 < length word) × (digits_value 10 word < 2 ^ bits)) (digits_value 10 word) n p e in
    let some = q.0.0 in
    let fits = q.0.1 in
    let same = q.1 in
    rw digits (grind (arith, nat_tests))

pub parsed_none : {E : Type 0} (bits : ℕ) (word : List ℕ) (x : E) (r : Result ℕ E) → AreDigits word → ParsesUnsigned bits 10 word r → r ≡ Err x → number_of bits word ≡ None
unfolding number_of
parsed_none bits word x r digits h e =
    let p = parse_digits decimal_words bits word r h digits in
    let q = OkIff-at_err r ((0 < length word) × (digits_value 10 word < 2 ^ bits)) (digits_value 10 word) x p e in
    rw digits (neither (length word) (digits_value 10 word) (2 ^ bits) q)

-- the value of a word, below top
abbrev Below : Bool → ℕ → ℕ → ℕ → Option ℕ
Below digits k v top = if digits && (nat_lt 0 k && nat_lt v top) then Some v else None

below_some : (b : Bool) (k v n small top : ℕ) → Below b k v top ≡ Some n → n < small → Below b k v small ≡ Some n
below_some false k v n small top e h = absurd (cc)
below_some true k v n small top e h = grind (arith, nat_tests)

below_none : (b : Bool) (k v small top : ℕ) → small ≤ top → Below b k v top ≡ None → Below b k v small ≡ None
below_none false k v small top h e = refl
below_none true k v small top h e = grind (arith, nat_tests)

below_wide : (b : Bool) (k v n small top : ℕ) → Below b k v top ≡ Some n → small ≤ n → Below b k v small ≡ None
below_wide false k v n small top e h = refl
below_wide true k v n small top e h = grind (arith, nat_tests)

-- a 64-bit number that fits fewer bits
pub narrow_some : (bits : ℕ) (word : List ℕ) (n : ℕ) → number_of 64 word ≡ Some n → n < 2 ^ bits → number_of bits word ≡ Some n
unfolding number_of
narrow_some bits word n e h = below_some (list_all is_ascii_digit word) (length word) (digits_value 10 word) n (2 ^ bits) (2 ^ 64) e h

-- one that doesn't
pub narrow_wide : (bits : ℕ) (word : List ℕ) (n : ℕ) → number_of 64 word ≡ Some n → 2 ^ bits ≤ n → number_of bits word ≡ None
unfolding number_of
narrow_wide bits word n e h = below_wide (list_all is_ascii_digit word) (length word) (digits_value 10 word) n (2 ^ bits) (2 ^ 64) e h

-- no 64-bit number is none of fewer bits
pub narrow_none : (bits : ℕ) (word : List ℕ) → 2 ^ bits ≤ 2 ^ 64 → number_of 64 word ≡ None → number_of bits word ≡ None
unfolding number_of
narrow_none bits word h e = below_none (list_all is_ascii_digit word) (length word) (digits_value 10 word) (2 ^ bits) (2 ^ 64) h e

-- what was read before, and what is still read
abbrev pub with_front : List ℕ → Option (List ℕ) → Option (List ℕ)
with_front front read = option_map (λ ns. front ++ ns) read

regroup : (front : List ℕ) (n : ℕ) (read : Option (List ℕ)) → with_front front (read >>= λ ns. Some (n ∷ ns)) ≡ with_front (front ++ n ∷ []) read
regroup front n (Some ns) = ap Some (simp append_assoc)
regroup front n None = refl

pub numbers_go_on : {W : Type 0} (text : W → List ℕ) (words : List W) (i : ℕ) (d : W) (front : List ℕ) (n : ℕ) (total : Option (List ℕ))
    → i < length words → (r : Option ℕ) → r ≡ number_of 64 (text (get_or words i d)) → r ≡ Some n
    → with_front front (numbers_of (map text (drop i words))) ≡ total
    → with_front (front ++ n ∷ []) (numbers_of (map text (drop (i + 1) words))) ≡ total
unfolding numbers_of
numbers_go_on text words i d front n total lt r is got so_far =
    let e : number_of 64 (text (get_or words i d)) ≡ Some n = sym is ∙ got in
    let k : drop i words ≡ get_or words i d ∷ drop (i + 1) words = drop_more words i d lt in
    let one : with_front front (numbers_of (map text (drop i words))) ≡ with_front (front ++ n ∷ []) (numbers_of (map text (drop (i + 1) words))) =
    rw (k, e) (regroup front n (numbers_of (map text (drop (i + 1) words)))) in
    sym one ∙ so_far

pub numbers_end : {W : Type 0} (text : W → List ℕ) (words : List W) (i : ℕ) (d : W) (front : List ℕ) (total : Option (List ℕ))
    → i < length words → (r : Option ℕ) → r ≡ number_of 64 (text (get_or words i d)) → r ≡ None
    → with_front front (numbers_of (map text (drop i words))) ≡ total → total ≡ None
unfolding numbers_of
numbers_end text words i d front total lt r is got so_far =
    let h : number_of 64 (text (get_or words i d)) ≡ None = sym is ∙ got in
    let k : drop i words ≡ get_or words i d ∷ drop (i + 1) words = drop_more words i d lt in
    let one : with_front front (numbers_of (map text (drop i words))) ≡ None = rw (k, h) refl in
    sym so_far ∙ one

pub numbers_done : {W : Type 0} (text : W → List ℕ) (words : List W) (i : ℕ) (front : List ℕ) (total : Option (List ℕ))
    → length words ≤ i → with_front front (numbers_of (map text (drop i words))) ≡ total → total ≡ Some front
unfolding numbers_of
numbers_done text words i front total le so_far =
    let one : with_front front (numbers_of (map text (drop i words))) ≡ Some front =
    at_drop_all (λ ws. with_front front (numbers_of (map text ws))) words i le ∙ ap Some (append-nil front) in
    sym so_far ∙ one

pub with_front-nil : (read : Option (List ℕ)) → with_front [] read ≡ read
with_front-nil (Some ns) = refl
with_front-nil None = refl
