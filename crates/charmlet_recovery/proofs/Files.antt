-- What is taken of two files, and what was stored there.
use Rattle.std.proofs.Common.{◌≡◌, inl, inr, ℕ, ◌+◌, true, false, cond, eqb, List, length, refl, sym, ap, subst, ◌∙◌, arith}
use Rattle.std.specs.Prelude.{Result, Ok, Err}
use Rattle.std.proofs.lemmas.Bool.{eqb-true, eq-eqb, ne_eqb}
use Rattle.charmlet_model.specs.declared.half.Half.{Half}
use Rattle.charmlet_model.specs.declared.half.Half.TheVariants.{Zero, One}
use Rattle.charmlet_image.specs.declared.header.Header.{Header}
use Rattle.charmlet_image.specs.Images.{Saved}
use Rattle.charmlet_image.specs.Halves as halves
use Rattle.charmlet_image.specs.Halves.{named, read_saved, Top, Shut, Begun, Broken, top, Closed, Open, found_from, found, Taken, NothingHere, Takes, DamagedAt, taken_half, choice, taken}
use Rattle.charmlet_image.proofs.HalfLemmas.{opens}
use Rattle.charmlet_image.proofs.SpelledLemmas.{spelled_is_found, found_is_spelled}
use Rattle.charmlet_recovery.specs.Stores.{IsSuperseded}
use Rattle.charmlet_recovery.specs.FileLaws.{StoredIsTaken, SpelledIsSuperseded, TakenWasStored}

-- ---- what is stored is taken

alone-first : (size more : ℕ) (t : Top) (s : Saved) → found_from size t ≡ Open s → choice size t more Shut ≡ Takes Zero s
alone-first size more Shut s e = absurd cc
alone-first size more (Begun h bytes) s e = ap (taken_half Zero) e
alone-first size more (Broken offset) s e = absurd cc

alone-second : (size more : ℕ) (t : Top) (s : Saved) → found_from more t ≡ Open s → choice size Shut more t ≡ Takes One s
alone-second size more Shut s e = absurd cc
alone-second size more (Begun h bytes) s e = ap (taken_half One) e
alone-second size more (Broken offset) s e = absurd cc

first-taken : (first second : List ℕ) (s : Saved) → found first ≡ Open s → IsSuperseded second s.header.generation → taken first second ≡ Takes Zero s
first-taken first second s e (inl shut) = ap (choice (length first) (top first) (length second)) shut ∙ alone-first (length first) (length second) (top first) s e
first-taken first second s e (inr (k, others, begun, next)) =
    let a = opens first s e in
    let start : taken first second ≡ choice (length first) (Begun s.header a.rest) (length second) (Begun k others) = λ i. choice (length first) (a.begins i) (length second) (begun i) in
    let no : eqb k.generation (s.header.generation + 1) ≡ false = ne_eqb _ _ (λ same. absurd (omega (arith, same, next))) in
    let is : eqb s.header.generation (k.generation + 1) ≡ true = eq-eqb _ _ next in
    start ∙ rw (no, is) (ap (taken_half Zero) a.read)

second-taken : (first second : List ℕ) (s : Saved) → found second ≡ Open s → IsSuperseded first s.header.generation → taken first second ≡ Takes One s
second-taken first second s e (inl shut) = ap (λ t. choice (length first) t (length second) (top second)) shut ∙ alone-second (length first) (length second) (top second) s e
second-taken first second s e (inr (k, others, begun, next)) =
    let a = opens second s e in
    let start : taken first second ≡ choice (length first) (Begun k others) (length second) (Begun s.header a.rest) = λ i. choice (length first) (begun i) (length second) (a.begins i) in
    let is : eqb s.header.generation (k.generation + 1) ≡ true = eq-eqb _ _ next in
    start ∙ rw is (ap (taken_half One) a.read)

pub stored_is_taken : StoredIsTaken
stored_is_taken outcome Zero s is =
    first-taken (outcome Zero) (outcome One) s (spelled_is_found (outcome Zero) s is.good is.spelled) is.superseded
stored_is_taken outcome One s is =
    second-taken (outcome Zero) (outcome One) s (spelled_is_found (outcome One) s is.good is.spelled) is.superseded

pub spelled_is_superseded : SpelledIsSuperseded
spelled_is_superseded bytes s is text =
    let a = opens bytes s (spelled_is_found bytes s is text) in
    inr (s.header, a.rest, a.begins, refl)

-- ---- what is taken was stored

-- what is taken of the files is found in one of them, and the other one is superseded
abbrev Says : List ℕ → List ℕ → Taken → Type 0
Says first second NothingHere = Unit {0}
Says first second (DamagedAt half offset) = Unit {0}
Says first second (Takes Zero s) = (found first ≡ Open s) × IsSuperseded second s.header.generation
Says first second (Takes One s) = (found second ≡ Open s) × IsSuperseded first s.header.generation

same-header : (bytes : List ℕ) (h : Header) (rest : List ℕ) (s : Saved) → top bytes ≡ Begun h rest → found bytes ≡ Open s → s.header ≡ h
same-header bytes h rest s begun e = let a = opens bytes s e in let same : Begun s.header a.rest ≡ Begun h rest = sym a.begins ∙ begun in cc

module _ (first second : List ℕ) where
  first-says : (h : Header) (rest : List ℕ) → top first ≡ Begun h rest → ((s : Saved) → s.header ≡ h → IsSuperseded second s.header.generation) →
      (f : halves.Found) → found first ≡ f → Says first second (taken_half Zero f)
  first-says h rest begun superseded Closed e = tt
  first-says h rest begun superseded (Open s) e = (e, superseded s (same-header first h rest s begun e))
  first-says h rest begun superseded (halves.Damaged offset) e = tt

  second-says : (k : Header) (rest : List ℕ) → top second ≡ Begun k rest → ((s : Saved) → s.header ≡ k → IsSuperseded first s.header.generation) →
      (f : halves.Found) → found second ≡ f → Says first second (taken_half One f)
  second-says k rest begun superseded Closed e = tt
  second-says k rest begun superseded (Open s) e = (e, superseded s (same-header second k rest s begun e))
  second-says k rest begun superseded (halves.Damaged offset) e = tt

  both-say : (h k : Header) (rest others : List ℕ) → top first ≡ Begun h rest → top second ≡ Begun k others →
      Says first second (choice (length first) (Begun h rest) (length second) (Begun k others))
  both-say h k rest others one two =
      let later = found_from (length second) (Begun k others) in
      let earlier = found_from (length first) (Begun h rest) in
      elim (eqb k.generation (h.generation + 1)) as (λ b. eqb k.generation (h.generation + 1) ≡ b →
      Says first second (cond b (taken_half One later) (cond (eqb h.generation (k.generation + 1)) (taken_half Zero earlier) (DamagedAt One 5)))) [
        | true ↦ λ next.
            second-says k others two (λ s same. inr (h, rest, one, ap (λ (x : Header). x.generation) same ∙ eqb-true _ _ next)) later (ap (found_from (length second)) two)
        | false ↦ λ _.
            elim (eqb h.generation (k.generation + 1)) as (λ b. eqb h.generation (k.generation + 1) ≡ b → Says first second (cond b (taken_half Zero earlier) (DamagedAt One 5))) [
              | true ↦ λ next.
                  first-says h rest one (λ s same. inr (k, others, two, ap (λ (x : Header). x.generation) same ∙ eqb-true _ _ next)) earlier (ap (found_from (length first)) one)
              | false ↦ λ _. tt
            ] refl
      ] refl

  tops-say : (t u : Top) → top first ≡ t → top second ≡ u → Says first second (choice (length first) t (length second) u)
  tops-say Shut Shut one two = tt
  tops-say (Begun h rest) Shut one two = first-says h rest one (λ s same. inl two) (found_from (length first) (Begun h rest)) (ap (found_from (length first)) one)
  tops-say Shut (Begun k others) one two = second-says k others two (λ s same. inl one) (found_from (length second) (Begun k others)) (ap (found_from (length second)) two)
  tops-say (Begun h rest) (Begun k others) one two = both-say h k rest others one two
  tops-say (Broken offset) u one two = tt
  tops-say Shut (Broken offset) one two = tt
  tops-say (Begun h rest) (Broken offset) one two = tt

-- ---- nothing is taken

-- what is taken is something, or both files are closed
abbrev SaysNothing : List ℕ → List ℕ → Taken → Type 0
SaysNothing first second NothingHere = (top first ≡ Shut) × (top second ≡ Shut)
SaysNothing first second _ = Unit {0}

read-half : (first second : List ℕ) (half : Half) (size : ℕ) (r : Result (Saved × List ℕ) ℕ) → SaysNothing first second (taken_half half (named size r))
read-half first second half size (Ok x) = tt
read-half first second half size (Err left) = tt

tops-or-nothing : (first second : List ℕ) (t u : Top) → top first ≡ t → top second ≡ u → SaysNothing first second (choice (length first) t (length second) u)
tops-or-nothing first second Shut Shut one two = (one, two)
tops-or-nothing first second (Begun h rest) Shut one two = read-half first second Zero (length first) (read_saved h rest)
tops-or-nothing first second Shut (Begun k others) one two = read-half first second One (length second) (read_saved k others)
tops-or-nothing first second (Begun h rest) (Begun k others) one two =
    let later = found_from (length second) (Begun k others) in
    let earlier = found_from (length first) (Begun h rest) in
    elim (eqb k.generation (h.generation + 1)) as (λ b. SaysNothing first second (cond b (taken_half One later) (cond (eqb h.generation (k.generation + 1)) (taken_half Zero earlier) (DamagedAt One 5)))) [
      | true ↦ read-half first second One (length second) (read_saved k others)
      | false ↦
          elim (eqb h.generation (k.generation + 1)) as (λ b. SaysNothing first second (cond b (taken_half Zero earlier) (DamagedAt One 5))) [
            | true ↦ read-half first second Zero (length first) (read_saved h rest)
            | false ↦ tt
          ]
    ]
tops-or-nothing first second (Broken offset) u one two = tt
tops-or-nothing first second Shut (Broken offset) one two = tt
tops-or-nothing first second (Begun h rest) (Broken offset) one two = tt

pub nothing_is_closed : (first second : List ℕ) → taken first second ≡ NothingHere → (top first ≡ Shut) × (top second ≡ Shut)
nothing_is_closed first second e = subst (SaysNothing first second) e (tops-or-nothing first second (top first) (top second) refl refl)

pub closed_is_nothing : (first second : List ℕ) → top first ≡ Shut → top second ≡ Shut → taken first second ≡ NothingHere
closed_is_nothing first second one two = λ i. choice (length first) (one i) (length second) (two i)

-- ---- what is taken was stored

pub taken_was_stored : TakenWasStored
taken_was_stored outcome Zero s bytes e =
    let said : Says (outcome Zero) (outcome One) (Takes Zero s) = subst (Says (outcome Zero) (outcome One)) e (tops-say (outcome Zero) (outcome One) (top (outcome Zero)) (top (outcome One)) refl refl) in
    let text = found_is_spelled (outcome Zero) s (bytes Zero) said.0 in
    record { good = text.0; spelled = text.1; superseded = said.1 }
taken_was_stored outcome One s bytes e =
    let said : Says (outcome Zero) (outcome One) (Takes One s) = subst (Says (outcome Zero) (outcome One)) e (tops-say (outcome Zero) (outcome One) (top (outcome Zero)) (top (outcome One)) refl refl) in
    let text = found_is_spelled (outcome One) s (bytes One) said.0 in
    record { good = text.0; spelled = text.1; superseded = said.1 }
