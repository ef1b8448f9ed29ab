-- Numbers, digit after digit.
use Rattle.std.proofs.Common.{◌≡◌, ◌+◌, ◌<◌, ℕ, List, [], ◌∷◌, drop, get_or, length, refl, ap}
use Rattle.std.specs.Prelude.{None, Some}
use Rattle.std.proofs.lemmas.List.{drop_more}
use Rattle.charmlet_dump.specs.Arguments.{next_number, number_after}

pub none_after : (digits : List ℕ) → number_after None digits ≡ None
none_after [] = refl
none_after (digit ∷ digits) = refl

pub one_after : (number : ℕ) (digits : List ℕ) (n : ℕ) → n < length digits → number_after (Some number) (drop n digits) ≡ number_after (next_number number (get_or digits n 0)) (drop (n + 1) digits)
one_after number digits n within = ap (number_after (Some number)) (drop_more digits n 0 within)
