-- Bytes around a gate, as the text before it, the gate, and the rest.
use Rattle.std.proofs.Common.{◌≡◌, ℕ, ◌+◌, ◌-◌, ◌<◌, List, [], ◌∷◌, ◌++◌, length, get_or, take, drop, refl, sym, ◌∙◌, ap, arith, append_assoc, length-append, take-append-drop}
use Rattle.std.proofs.lemmas.List.{take_at, drop_at, drop_more, length-take}
use Rattle.charmlet_disk.specs.Torn.{Torn}
use Rattle.charmlet_image.proofs.SpelledLemmas.{split_at}
use Rattle.charmlet_halves.specs.Bytes.{EndsClosed, before_gate}

pub length-front : (bytes : List ℕ) (at : ℕ) → at < length bytes → length (take at bytes) ≡ at
length-front bytes at inside = omega (arith, length-take at bytes, inside)

-- what is written ends with its closed gate
pub closing : (bytes : List ℕ) → EndsClosed bytes → bytes ≡ before_gate bytes ++ (get_or bytes (length bytes - 1) 0 ∷ [])
closing bytes ends =
    let all : length bytes - 1 + 1 ≡ length bytes = omega (arith, ends.some) in
    let none : drop (length bytes - 1 + 1) bytes ≡ [] = ap (λ (n : ℕ). drop n bytes) all ∙ gone bytes in
    split_at bytes (length bytes - 1) (omega (arith, ends.some)) ∙ ap (λ (l : List ℕ). before_gate bytes ++ (get_or bytes (length bytes - 1) 0 ∷ l)) none
  where
    gone : (l : List ℕ) → drop (length l) l ≡ []
    gone [] = refl
    gone (x ∷ xs) = gone xs

-- what stands before a torn range stays
pub front_stays : (front rest c : List ℕ) (at n : ℕ) → length front ≡ at → Torn at n (front ++ rest) c → c ≡ front ++ drop at c
front_stays front rest c at n is torn =
    sym (take-append-drop at c) ∙ ap (λ (l : List ℕ). l ++ drop at c) (torn.front ∙ take_at front rest at is)

-- of a torn byte only its value is open
pub byte_torn : (front rest c : List ℕ) (gate at : ℕ) → length front ≡ at → Torn at 1 (front ++ (gate ∷ rest)) c → c ≡ front ++ (get_or c at 0 ∷ rest)
byte_torn front rest c gate at is torn =
    let inside : at < length c = omega (arith, torn.no_shorter, length-append front (gate ∷ rest), is) in
    let split : front ++ (gate ∷ rest) ≡ (front ++ gate ∷ []) ++ rest = sym (append_assoc front (gate ∷ []) rest) in
    let after : drop (at + 1) (front ++ (gate ∷ rest)) ≡ rest =
    ap (λ (l : List ℕ). drop (at + 1) l) split ∙ drop_at (front ++ gate ∷ []) rest (at + 1) (omega (arith, is, length-append front (gate ∷ []))) in
    front_stays front (gate ∷ rest) c at 1 is torn
    ∙ ap (λ (l : List ℕ). front ++ l) (drop_more c at 0 inside ∙ ap (λ (l : List ℕ). get_or c at 0 ∷ l) (torn.later ∙ after))
