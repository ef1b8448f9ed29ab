-- What a request and a reply make of a client's window.
use Rattle.std.proofs.Common.{◌≡◌, ◌≢◌, ℕ, ◌+◌, ◌-◌, ◌<◌, ◌≤◌, true, false, ◌&&◌, ◌||◌, List, [], ◌∷◌, ◌++◌, length, length-append, get_or, set, drop, refl, sym, ap, ◌∙◌, arith, zero, suc, if◌then◌else◌, Some, None, nat_lt, is_some}
use Rattle.std.specs.Prelude.{nat_le, is_none, IfSome}
use Rattle.std.specs.List.{AllByRecursion}
use Rattle.std.proofs.lemmas.Bool.{leb-true, ltb-true, ltb-false}
use Rattle.std.proofs.Common.{lt-ltb}
use Rattle.std.proofs.lemmas.List.{length-set, get_or-set_other, get_or_past}
use Rattle.std.proofs.lemmas.Grind.{get_or_after_one}
use Rattle.std.proofs.lemmas.Bool.Decides.{nat_tests}
use Rattle.charmlet_model.specs.declared.client.ClientRow.{ClientRow}
use Rattle.charmlet_model.specs.Reaction.{greatest}
use Rattle.charmlet_model.specs.Row.{Item, below, in_window, item_place, item_of, awaits, has_place, with_place, with_request, with_reply}
use Rattle.charmlet_model.specs.Fit.{AreWords, IsRow}
use Rattle.charmlet_model.proofs.Maps.{both_parts}
use Rattle.charmlet_model.proofs.Reactions.{AllByRecursion-append}

-- ---- tests

le-leb : (a b : ℕ) → a ≤ b → nat_le a b ≡ true
le-leb a b h = grind (arith, nat_tests)

pub inside-parts : (row : ClientRow) (k : ℕ) → in_window row k ≡ true → (below row < k) × (k ≤ row.last)
inside-parts row k h =
    let parts = both_parts (nat_lt (below row) k) (nat_le k row.last) h in
    (ltb-true (below row) k parts.0, leb-true k row.last parts.1)

pub inside-true : (row : ClientRow) (k : ℕ) → below row < k → k ≤ row.last → in_window row k ≡ true
inside-true row k above within = ap (λ b. b && nat_le k row.last) (lt-ltb (below row) k above) ∙ le-leb k row.last within

none_is : (o : Item) → is_none o ≡ true → o ≡ None
none_is None h = refl
none_is (Some x) h = cc

pub awaited-parts : (row : ClientRow) (k : ℕ) → awaits row k ≡ true → (in_window row k ≡ true) × (item_of row k ≡ None)
awaited-parts row k h =
    let parts = both_parts (in_window row k) (is_none (item_of row k)) h in
    (parts.0, none_is (item_of row k) parts.1)

awaited-true : (row : ClientRow) (k : ℕ) → in_window row k ≡ true → item_of row k ≡ None → awaits row k ≡ true
awaited-true row k inside none = ap (λ b. b && is_none (item_of row k)) inside ∙ ap is_none none

-- a number past the window and not past the last one is below it
pub not_inside : (row : ClientRow) (k : ℕ) → in_window row k ≡ false → k ≤ row.last → k ≤ below row
not_inside row k h within = elim (nat_lt (below row) k) as (λ b. nat_lt (below row) k ≡ b → k ≤ below row) [
  | true ↦ λ above. let here = inside-true row k (ltb-true (below row) k above) within in absurd (let no : ⊥ = cc in no)
  | false ↦ λ under. ltb-false (below row) k under
] refl

-- ---- windows

-- an item with no reply reads as no item does
get_or-none : (xs : List Item) (i : ℕ) → get_or (xs ++ None ∷ []) i None ≡ get_or xs i None
get_or-none [] zero = refl
get_or-none [] (suc i) = refl
get_or-none (x ∷ xs) zero = refl
get_or-none (x ∷ xs) (suc i) = get_or-none xs i

length-dropped : (xs : List Item) → 1 ≤ length xs → length (drop 1 xs) + 1 ≡ length xs
length-dropped [] h = absurd (omega arith)
length-dropped (x ∷ xs) h = omega arith

-- a window to which an item can be added
record HasSpace (old new : List Item) : Type 0 where
  few : length new ≤ 7
  shorter : length new ≤ length old
  as_before : length old < 8 → new ≡ old
  opened : 8 ≤ length old → (length new + 1 ≡ length old) × (new ≡ drop 1 old)

placed : (window : List Item) → length window ≤ 8 → HasSpace window (with_place window)
placed window few = elim (nat_lt (length window) 8) as (λ b. nat_lt (length window) 8 ≡ b → HasSpace window (if b then window else drop 1 window)) [
  | true ↦ λ less.
      let is = ltb-true (length window) 8 less in
      record { few = omega arith; shorter = omega arith; as_before = λ _. refl; opened = λ full. absurd (omega arith) }
  | false ↦ λ full.
      let is = ltb-false (length window) 8 full in
      let one = length-dropped window (omega arith) in
      record { few = omega arith; shorter = omega arith; as_before = λ less. absurd (omega arith); opened = λ _. (one, refl) }
] refl

-- a window never grows by more than the new item
pub length-with_place : (window : List Item) → length (with_place window) ≤ length window
length-with_place window = elim (nat_lt (length window) 8) as (λ b. nat_lt (length window) 8 ≡ b → length (if b then window else drop 1 window) ≤ length window) [
  | true ↦ λ _. omega arith
  | false ↦ λ full. let is = ltb-false (length window) 8 full in let one = length-dropped window (omega arith) in omega arith
] refl

All-drop : (P : Item → Type 0) (xs : List Item) → AllByRecursion P xs → AllByRecursion P (drop 1 xs)
All-drop P [] h = tt
All-drop P (x ∷ xs) h = h.1

All-with_place : (P : Item → Type 0) (xs : List Item) → AllByRecursion P xs → AllByRecursion P (with_place xs)
All-with_place P xs h = elim (nat_lt (length xs) 8) as (λ b. AllByRecursion P (if b then xs else drop 1 xs)) [ true ↦ h | false ↦ All-drop P xs h ]

All-set : (P : Item → Type 0) (xs : List Item) (i : ℕ) (x : Item) → P x → AllByRecursion P xs → AllByRecursion P (set xs i x)
All-set P [] i x here h = tt
All-set P (y ∷ xs) zero x here h = (here, h.1)
All-set P (y ∷ xs) (suc i) x here h = (h.0, All-set P xs i x here h.1)

-- ---- a request

module _ (row : ClientRow) (number : ℕ) (next : number ≡ row.last + 1) where
  abbrev opened_window : List Item
  opened_window = with_place row.window

  whole : length (opened_window ++ None ∷ []) ≡ length opened_window + 1
  whole = length-append opened_window (None ∷ [])

  -- what lies below the window only grows
  pub below-with_request : below row ≤ below (with_request row number)
  below-with_request = let long = length-with_place row.window in let count = whole in omega arith

  pub row-with_request : IsRow row → number ≤ greatest → IsRow (with_request row number)
  row-with_request r small =
      let space = placed row.window r.few in
      let few = space.few in
      let shorter = space.shorter in
      let bounded = r.numbered in
      let count = whole in
      record {
        last = small;
        few = omega arith;
        numbered = omega arith;
        replies = AllByRecursion-append (λ item. IfSome item (AreWords 512)) opened_window (None ∷ [])
            (All-with_place (λ item. IfSome item (AreWords 512)) row.window r.replies) (tt, tt);
      }

  -- the new request waits
  pub new_awaits : IsRow row → awaits (with_request row number) number ≡ true
  new_awaits r =
      let space = placed row.window r.few in
      let shorter = space.shorter in
      let bounded = r.numbered in
      let count = whole in
      let new = with_request row number in
      let at : item_place new number ≡ length opened_window = omega arith in
      awaited-true new number (inside-true new number (omega arith) (omega arith))
      (ap (λ i. get_or (opened_window ++ None ∷ []) i None) at ∙ get_or-none opened_window (length opened_window)
      ∙ get_or_past opened_window (length opened_window) None (omega arith))

  -- and each that waits goes on waiting
  pub still_awaits : IsRow row → has_place row ≡ true → (k : ℕ) → awaits row k ≡ true → awaits (with_request row number) k ≡ true
  still_awaits r place k h =
      let parts = awaited-parts row k h in
      let inside = inside-parts row k parts.0 in
      let space = placed row.window r.few in
      let bounded = r.numbered in
      let few = r.few in
      let count = whole in
      let new = with_request row number in
      elim (nat_lt (length row.window) 8) as (λ b. nat_lt (length row.window) 8 ≡ b → awaits new k ≡ true) [
        | true ↦ λ less.
            let is = ltb-true (length row.window) 8 less in
            let same = space.as_before is in
            let long = ap length same in
            let at : item_place new k ≡ item_place row k = omega arith in
            awaited-true new k (inside-true new k (omega arith) (omega arith))
            (ap (λ i. get_or (opened_window ++ None ∷ []) i None) at ∙ get_or-none opened_window (item_place row k)
            ∙ ap (λ (xs : List Item). get_or xs (item_place row k) None) same ∙ parts.1)
        | false ↦ λ full.
            let is = ltb-false (length row.window) 8 full in
            let dropped = space.opened is in
            let one = dropped.0 in
            let first : is_some (get_or row.window 0 None) ≡ true = first_is full in
            let later : 1 ≤ item_place row k = not_first (item_place row k) parts.1 first in
            let at : 1 + item_place new k ≡ item_place row k = omega arith in
            awaited-true new k (inside-true new k (omega arith) (omega arith))
            (get_or-none opened_window (item_place new k)
            ∙ ap (λ (xs : List Item). get_or xs (item_place new k) None) dropped.1
            ∙ get_or_after_one row.window (item_place new k) None
            ∙ ap (λ i. get_or row.window i None) at ∙ parts.1)
      ] refl
    where
      first_is : nat_lt (length row.window) 8 ≡ false → is_some (get_or row.window 0 None) ≡ true
      first_is full = sym (ap (λ b. b || is_some (get_or row.window 0 None)) full) ∙ place

      not_first : (i : ℕ) → get_or row.window i None ≡ None → is_some (get_or row.window 0 None) ≡ true → 1 ≤ i
      not_first zero none some = let no : true ≡ false = sym some ∙ ap is_some none in absurd (let contra : ⊥ = cc in contra)
      not_first (suc i) none some = omega arith

-- ---- a reply

module _ (row : ClientRow) (number : ℕ) (reply : List ℕ) where
  pub count-with_reply : length (with_reply row number reply).window ≡ length row.window
  count-with_reply = length-set row.window (item_place row number) (Some reply)

  pub below-with_reply : below (with_reply row number reply) ≡ below row
  below-with_reply = ap (λ n. row.last - n) count-with_reply

  pub row-with_reply : IsRow row → AreWords 512 reply → IsRow (with_reply row number reply)
  row-with_reply r short =
      let count = count-with_reply in
      let few = r.few in
      let bounded = r.numbered in
      record {
        last = r.last;
        few = omega arith;
        numbered = omega arith;
        replies = All-set (λ item. IfSome item (AreWords 512)) row.window (item_place row number) (Some reply) short r.replies;
      }

  -- each other one that waits goes on waiting
  pub others_await : in_window row number ≡ true → (k : ℕ) → k ≢ number → awaits row k ≡ true → awaits (with_reply row number reply) k ≡ true
  others_await here k apart h =
      let parts = awaited-parts row k h in
      let inside = inside-parts row k parts.0 in
      let mine = inside-parts row number here in
      let new = with_reply row number reply in
      let same : below new ≡ below row = below-with_reply in
      let other : item_place row k ≢ item_place row number = λ one. apart (omega arith) in
      awaited-true new k (inside-true new k (omega arith) (omega arith))
      (ap (λ b. get_or new.window (k - b - 1) None) same ∙ get_or-set_other row.window (item_place row number) (item_place row k) (Some reply) None other ∙ parts.1)
