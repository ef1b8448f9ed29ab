-- Rows that say no less than others.
use Rattle.std.proofs.Common.{◌≡◌, ◌≢◌, ◌⊎◌, inl, inr, ℕ, ◌+◌, ◌-◌, ◌<◌, ◌≤◌, true, false, List, [], ◌∷◌, ◌++◌, length, length-append, get_or, drop, refl, sym, ap, subst, ◌∙◌, arith, zero, suc, if◌then◌else◌, Some, None, nat_lt}
use Rattle.std.proofs.lemmas.Bool.{ltb-true, ltb-false}
use Rattle.std.proofs.lemmas.List.{get_or-set_other}
use Rattle.std.proofs.lemmas.Grind.{get_or_after_one}
use Rattle.charmlet_model.specs.declared.client.ClientRow.{ClientRow}
use Rattle.charmlet_model.specs.declared.told.Told.{Told}
use Rattle.charmlet_model.specs.declared.told.Told.TheVariants.{Unknown, Accepted, Replied, Past}
use Rattle.charmlet_model.specs.Row.{Item, awaits, below, in_window, item_of, item_place, reply_to, with_place, with_reply, with_request}
use Rattle.charmlet_model.specs.Told.{told_of, told_of_item}
use Rattle.charmlet_model.proofs.Windows.{inside-parts, inside-true, awaited-parts, length-with_place, below-with_request, below-with_reply}
use Rattle.charmlet_requests.specs.Knowing.{IsWindowed, IsNoLess}

-- the reply to a request stays known until the window has passed it
abbrev pub Keeps : ClientRow → ℕ → List ℕ → Type 0
Keeps row k reply = (reply_to row k ≡ Some reply) ⊎ (k ≤ below row)

-- the second row says no less of any request than the first
pub record Covers (old new : ClientRow) : Type 0 where
  pub last : old.last ≤ new.last
  pub passed : below old ≤ below new
  pub kept : (k : ℕ) (reply : List ℕ) → reply_to old k ≡ Some reply → Keeps new k reply

pub covers-itself : (row : ClientRow) → Covers row row
covers-itself row = record { last = omega arith; passed = omega arith; kept = λ k reply is. inl is }

pub covers-then : (a b c : ClientRow) → Covers a b → Covers b c → Covers a c
covers-then a b c first second =
    let last = first.last in
    let next_last = second.last in
    let passed = first.passed in
    let next_passed = second.passed in
    record {
      last = omega arith;
      passed = omega arith;
      kept = λ k reply is. elim (first.kept k reply is) [
        | inl here ↦ second.kept k reply here
        | inr past ↦ inr (omega arith)
      ];
    }

-- ---- a number of the window, and its reply

pub replied-parts : (row : ClientRow) (k : ℕ) (reply : List ℕ) → reply_to row k ≡ Some reply → (in_window row k ≡ true) × (item_of row k ≡ Some reply)
replied-parts row k reply is =
    elim (in_window row k) as (λ b. in_window row k ≡ b → (if b then item_of row k else None) ≡ Some reply → (in_window row k ≡ true) × (item_of row k ≡ Some reply)) [
      | true ↦ λ inside is. (inside, is)
      | false ↦ λ _ is. absurd (let no : ⊥ = cc in no)
    ] refl is

pub replied-true : (row : ClientRow) (k : ℕ) (reply : List ℕ) → below row < k → k ≤ row.last → item_of row k ≡ Some reply → reply_to row k ≡ Some reply
replied-true row k reply above within is = ap (λ b. if b then item_of row k else None) (inside-true row k above within) ∙ is

-- a window has no item at a place past its last one
pub item-past : (xs : List Item) (i : ℕ) (reply : List ℕ) → get_or xs i None ≡ Some reply → i < length xs
item-past [] i reply is = absurd (let no : ⊥ = cc in no)
item-past (x ∷ xs) zero reply is = omega arith
item-past (x ∷ xs) (suc i) reply is = omega (arith, item-past xs i reply is)

-- an item stays at its place when one is put after the others
get_or-push : (xs ys : List Item) (i : ℕ) → i < length xs → get_or (xs ++ ys) i None ≡ get_or xs i None
get_or-push [] ys i h = absurd (omega arith)
get_or-push (x ∷ xs) ys zero h = refl
get_or-push (x ∷ xs) ys (suc i) h = get_or-push xs ys i (omega arith)

-- ---- what a row says of a request

module _ (row : ClientRow) (k : ℕ) where
  -- above the last number
  pub told-above : row.last < k → told_of row k ≡ Unknown
  told-above above = elim (nat_lt row.last k) as (λ b. nat_lt row.last k ≡ b → (if b then Unknown else if in_window row k then told_of_item (reply_to row k) else Past) ≡ Unknown) [
    | true ↦ λ _. refl
    | false ↦ λ is. let within = ltb-false row.last k is in absurd (omega arith)
  ] refl

  -- in the window
  pub told-inside : below row < k → k ≤ row.last → told_of row k ≡ told_of_item (reply_to row k)
  told-inside above within = elim (nat_lt row.last k) as (λ b. nat_lt row.last k ≡ b → (if b then Unknown else if in_window row k then told_of_item (reply_to row k) else Past) ≡ told_of_item (reply_to row k)) [
    | true ↦ λ is. let past = ltb-true row.last k is in absurd (omega arith)
    | false ↦ λ _. ap (λ b. if b then told_of_item (reply_to row k) else Past) (inside-true row k above within)
  ] refl

  -- below it
  pub told-below : k ≤ below row → told_of row k ≡ Past
  told-below under = elim (nat_lt row.last k) as (λ b. nat_lt row.last k ≡ b → (if b then Unknown else if in_window row k then told_of_item (reply_to row k) else Past) ≡ Past) [
    | true ↦ λ is. let past = ltb-true row.last k is in absurd (omega arith)
    | false ↦ λ _. elim (in_window row k) as (λ b. in_window row k ≡ b → (if b then told_of_item (reply_to row k) else Past) ≡ Past) [
      | true ↦ λ inside. let parts = inside-parts row k inside in absurd (omega (arith, parts.0))
      | false ↦ λ _. refl
    ] refl
  ] refl

-- how a row may speak of a request
pub data Says (row : ClientRow) (k : ℕ) : Type 0 where
  Above : row.last < k → Says row k
  Waits : k ≤ row.last → below row < k → reply_to row k ≡ None → Says row k
  HasReply : (reply : List ℕ) → k ≤ row.last → below row < k → reply_to row k ≡ Some reply → Says row k
  Below : k ≤ below row → Says row k

pub says : (row : ClientRow) (k : ℕ) → Says row k
says row k = elim (nat_lt row.last k) as (λ b. nat_lt row.last k ≡ b → Says row k) [
  | true ↦ λ is. Above (ltb-true row.last k is)
  | false ↦ λ is.
      let within = ltb-false row.last k is in
      elim (nat_lt (below row) k) as (λ b. nat_lt (below row) k ≡ b → Says row k) [
        | true ↦ λ over.
            let above = ltb-true (below row) k over in
            elim (reply_to row k) as (λ o. reply_to row k ≡ o → Says row k) [
              | None ↦ λ none. Waits within above none
              | Some reply ↦ λ some. HasReply reply within above some
            ] refl
        | false ↦ λ under. Below (ltb-false (below row) k under)
      ] refl
] refl

-- ---- no less

no_less-item : (o : Item) → IsNoLess Accepted (told_of_item o)
no_less-item None = tt
no_less-item (Some reply) = tt

pub no_less-itself : (t : Told) → IsNoLess t t
no_less-itself Unknown = tt
no_less-itself Accepted = tt
no_less-itself (Replied reply) = inl refl
no_less-itself Past = refl

-- a row that covers another tells no less of any request
pub covers-told : (old new : ClientRow) (k : ℕ) → Covers old new → IsNoLess (told_of old k) (told_of new k)
covers-told old new k covers =
    let last = covers.last in
    let passed = covers.passed in
    elim (says old k) [
      | Above above ↦ subst (λ t. IsNoLess t (told_of new k)) (sym (told-above old k above)) tt
      | Waits within above none ↦
          subst (λ t. IsNoLess t (told_of new k)) (sym (told-inside old k above within ∙ ap told_of_item none))
          (elim (nat_lt (below new) k) as (λ b. nat_lt (below new) k ≡ b → IsNoLess Accepted (told_of new k)) [
            | true ↦ λ is. subst (IsNoLess Accepted) (sym (told-inside new k (ltb-true (below new) k is) (omega arith))) (no_less-item (reply_to new k))
            | false ↦ λ is. subst (IsNoLess Accepted) (sym (told-below new k (ltb-false (below new) k is))) tt
          ] refl)
      | HasReply reply within above some ↦
          subst (λ t. IsNoLess t (told_of new k)) (sym (told-inside old k above within ∙ ap told_of_item some))
          (elim (covers.kept k reply some) [
            | inl here ↦
                let inside = inside-parts new k (replied-parts new k reply here).0 in
                inl (told-inside new k inside.0 inside.1 ∙ ap told_of_item here)
            | inr past ↦ inr (told-below new k past)
          ])
      | Below under ↦ subst (λ t. IsNoLess t (told_of new k)) (sym (told-below old k under)) (told-below new k (omega arith))
    ]

-- of a number up to its last one a row tells something
pub told-known : (row : ClientRow) (k : ℕ) → k ≤ row.last → IsNoLess Accepted (told_of row k)
told-known row k known = elim (says row k) [
  | Above above ↦ absurd (omega arith)
  | Waits within above none ↦ subst (IsNoLess Accepted) (sym (told-inside row k above within ∙ ap told_of_item none)) tt
  | HasReply reply within above some ↦ subst (IsNoLess Accepted) (sym (told-inside row k above within ∙ ap told_of_item some)) tt
  | Below under ↦ subst (IsNoLess Accepted) (sym (told-below row k under)) tt
]

-- ---- one request more

module _ (row : ClientRow) (number : ℕ) (next : number ≡ row.last + 1) (windowed : IsWindowed row) where
  abbrev wider : ClientRow
  wider = with_request row number

  whole : length wider.window ≡ length (with_place row.window) + 1
  whole = length-append (with_place row.window) (None ∷ [])

  dropped-one : (xs : List Item) → 1 ≤ length xs → length (drop 1 xs) + 1 ≡ length xs
  dropped-one [] h = absurd (omega arith)
  dropped-one (x ∷ xs) h = omega arith

  kept-request : (k : ℕ) (reply : List ℕ) → reply_to row k ≡ Some reply → Keeps wider k reply
  kept-request k reply is =
      let parts = replied-parts row k reply is in
      let inside = inside-parts row k parts.0 in
      let bounded = windowed.numbered in
      let few = windowed.few in
      let above = inside.0 in
      let within = inside.1 in
      let here = item-past row.window (item_place row k) reply parts.1 in
      elim (nat_lt (length row.window) 8) as (λ b. nat_lt (length row.window) 8 ≡ b → Keeps wider k reply) [
        | true ↦ λ less.
            let same : with_place row.window ≡ row.window = ap (λ b. if b then row.window else drop 1 row.window) less in
            let long = ap length same in
            let count = whole in
            let at : item_place wider k ≡ item_place row k = omega arith in
            inl (replied-true wider k reply (omega arith) (omega arith)
            (ap (λ i. get_or (with_place row.window ++ None ∷ []) i None) at
            ∙ ap (λ (xs : List Item). get_or (xs ++ None ∷ []) (item_place row k) None) same
            ∙ get_or-push row.window (None ∷ []) (item_place row k) here ∙ parts.1))
        | false ↦ λ full.
            let is = ltb-false (length row.window) 8 full in
            let same : with_place row.window ≡ drop 1 row.window = ap (λ b. if b then row.window else drop 1 row.window) full in
            let long = ap length same in
            let one = dropped-one row.window (omega arith) in
            let count = whole in
            elim (nat_lt 0 (item_place row k)) as (λ b. nat_lt 0 (item_place row k) ≡ b → Keeps wider k reply) [
              | true ↦ λ later.
                  let second = ltb-true 0 (item_place row k) later in
                  let at : 1 + item_place wider k ≡ item_place row k = omega arith in
                  inl (replied-true wider k reply (omega arith) (omega arith)
                  (ap (λ (xs : List Item). get_or (xs ++ None ∷ []) (item_place wider k) None) same
                  ∙ get_or-push (drop 1 row.window) (None ∷ []) (item_place wider k) (omega arith)
                  ∙ get_or_after_one row.window (item_place wider k) None
                  ∙ ap (λ i. get_or row.window i None) at ∙ parts.1))
              | false ↦ λ first. let zeroth = ltb-false 0 (item_place row k) first in inr (omega arith)
            ] refl
      ] refl

  pub covers-request : Covers row wider
  covers-request = record { last = omega arith; passed = below-with_request row number next; kept = kept-request }

  pub windowed-request : IsWindowed wider
  windowed-request =
      let few = windowed.few in
      let bounded = windowed.numbered in
      let count = whole in
      let long = length-with_place row.window in
      elim (nat_lt (length row.window) 8) as (λ b. nat_lt (length row.window) 8 ≡ b → IsWindowed wider) [
        | true ↦ λ less. let is = ltb-true (length row.window) 8 less in record { few = omega arith; numbered = omega arith }
        | false ↦ λ full.
            let is = ltb-false (length row.window) 8 full in
            let same : length (with_place row.window) ≡ length (drop 1 row.window) = ap (λ b. length (if b then row.window else drop 1 row.window)) full in
            let one = dropped-one row.window (omega arith) in
            record { few = omega arith; numbered = omega arith }
      ] refl

-- ---- a reply

module _ (row : ClientRow) (number : ℕ) (reply : List ℕ) where
  abbrev answered_row : ClientRow
  answered_row = with_reply row number reply

  kept-reply : awaits row number ≡ true → (k : ℕ) (other : List ℕ) → reply_to row k ≡ Some other → Keeps answered_row k other
  kept-reply waits k other is =
      let mine = awaited-parts row number waits in
      let parts = replied-parts row k other is in
      let inside = inside-parts row k parts.0 in
      let own = inside-parts row number mine.0 in
      let above = inside.0 in
      let within = inside.1 in
      let own_above = own.0 in
      let same : below answered_row ≡ below row = below-with_reply row number reply in
      let apart : k ≢ number = λ one. let both : Some other ≡ None = sym parts.1 ∙ ap (item_of row) one ∙ mine.1 in absurd (let no : ⊥ = cc in no) in
      let elsewhere : item_place row k ≢ item_place row number = λ one. apart (omega arith) in
      inl (replied-true answered_row k other (omega arith) within
      (ap (λ b. get_or answered_row.window (k - b - 1) None) same ∙ get_or-set_other row.window (item_place row number) (item_place row k) (Some reply) None elsewhere ∙ parts.1))

  pub covers-reply : awaits row number ≡ true → Covers row answered_row
  covers-reply waits = let same : below answered_row ≡ below row = below-with_reply row number reply in record { last = omega arith; passed = omega arith; kept = kept-reply waits }
