-- Files that begin with a half.
use Rattle.std.proofs.Common.{◌≡◌, ◌≢◌, ℕ, ◌+◌, ◌-◌, ◌%◌, ◌<◌, inl, inr, List, [], ◌∷◌, ◌++◌, length, get_or, take, drop, Result, Ok, Err, refl, sym, ap, ◌∙◌, length-append, take-append-drop, arith}
use Rattle.std.proofs.lemmas.Bool.{le-leb, lt-leb, eq-eqb, ne_eqb, cases_lt}
use Rattle.std.proofs.lemmas.List.{take_at, drop_more, get_or-append_right}
use Rattle.charmlet_pup.specs.Fields.{number_bytes}
use Rattle.charmlet_image.specs.declared.header.Header.{Header}
use Rattle.charmlet_image.specs.Images.{spell_half}
use Rattle.charmlet_image.specs.Halves.{Shut, begun, top, found}
use Rattle.charmlet_image.specs.Reading.{read_header}
use Rattle.charmlet_image.specs.Spelled.{Spells, ClosedIsShut, SpelledIsFound, FoundIsSpelled}
use Rattle.charmlet_image.proofs.HalfLemmas.{halves_end, read_halves_were_spelled}

-- bytes around one of them
pub split_at : (bytes : List ℕ) (at : ℕ) → at < length bytes → bytes ≡ take at bytes ++ (get_or bytes at 0 ∷ drop (at + 1) bytes)
split_at bytes at inside = sym (take-append-drop at bytes) ∙ ap (λ (l : List ℕ). take at bytes ++ l) (drop_more bytes at 0 inside)

-- what stands after a text
gate_after : (text rest : List ℕ) (gate : ℕ) → get_or (text ++ (gate ∷ rest)) (length text) 0 ≡ gate
gate_after text rest gate =
    let none : length text - length text ≡ 0 = omega arith in
    get_or-append_right text (gate ∷ rest) (length text) (length text) 0 refl (omega arith) ∙ ap (λ (i : ℕ). get_or (gate ∷ rest) i 0) none

-- a text before a closed gate
pub spells_so : (bytes text rest : List ℕ) (gate : ℕ) → gate ≢ 1 → bytes ≡ text ++ (gate ∷ rest) → Spells bytes text
spells_so bytes text rest gate closed is = record {
  front = ap (λ (b : List ℕ). take (length text) b) is ∙ take_at text (gate ∷ rest) (length text) refl;
  inside = omega (arith, ap (λ (b : List ℕ). length b) is, length-append text (gate ∷ rest));
  closed = λ is_one. closed (sym (ap (λ (b : List ℕ). get_or b (length text) 0) is ∙ gate_after text rest gate) ∙ is_one);
}

pub spelled_is_found : SpelledIsFound
spelled_is_found bytes s is spells =
    let after = drop (length (spell_half s) + 1) bytes in
    let gate = get_or bytes (length (spell_half s)) 0 in
    ap found (split_at bytes (length (spell_half s)) spells.inside ∙ ap (λ (t : List ℕ). t ++ (gate ∷ after)) spells.front)
    ∙ halves_end s gate after is spells.closed

one_byte : (gate : ℕ) → gate < 256 → number_bytes 1 gate ≡ gate ∷ []
unfolding number_bytes
one_byte gate small = let is : gate % 256 ≡ gate = omega arith in ap (λ (b : ℕ). b ∷ []) is

pub found_is_spelled : FoundIsSpelled
found_is_spelled bytes s fits e =
    let so = read_halves_were_spelled bytes s fits e in
    (so.5, spells_so bytes (spell_half s) so.3 so.0 so.2 (so.4 ∙ ap (λ (l : List ℕ). spell_half s ++ (l ++ so.3)) (one_byte so.0 so.1)))

pub closed_is_shut : (bytes : List ℕ) → ClosedIsShut bytes
closed_is_shut bytes = record {
  shut = λ closed. elim (cases_lt 1 (length bytes)) [
    | inl long ↦ rw (lt-leb (length bytes) 1 long, ne_eqb (get_or bytes 0 0) 1 (closed long)) refl
    | inr short ↦ rw (le-leb (length bytes) 1 short) refl
  ];
  closed = λ is long is_one. opened long is_one is;
}
  where
    not_shut : (size : ℕ) (r : Result (Header × List ℕ) ℕ) → begun size r ≡ Shut → ⊥
    not_shut size (Ok x) e = absurd cc
    not_shut size (Err left) e = absurd cc

    opened : 1 < length bytes → get_or bytes 0 0 ≡ 1 → top bytes ≡ Shut → ⊥
    opened long is_one is = not_shut (length bytes) (read_header (drop 1 bytes)) (sym (rw (lt-leb (length bytes) 1 long, eq-eqb (get_or bytes 0 0) 1 is_one) refl) ∙ is)
