-- What a request and a reply make of the replies in a client's row.
use Rattle.std.proofs.Common.{◌≡◌, ◌≢◌, ℕ, zero, suc, ◌+◌, ◌-◌, ◌<◌, ◌≤◌, Bool, true, false, cond, ◌&&◌, List, [], ◌∷◌, ◌++◌, length, length-append, get_or, set, drop, refl, sym, ap, ◌∙◌, arith, Some, None, nat_lt}
use Rattle.std.specs.Prelude.{nat_le}
use Rattle.std.proofs.lemmas.Bool.{leb-true, leb-false, ltb-false}
use Rattle.std.proofs.lemmas.List.{get_or-set_other, get_or_past}
use Rattle.std.proofs.lemmas.Grind.{get_or_after_one}
use Rattle.charmlet_model.specs.declared.client.ClientRow.{ClientRow}
use Rattle.charmlet_model.specs.Row.{Item, below, in_window, item_place, item_of, reply_to, with_place, with_reply, with_request}
use Rattle.charmlet_model.proofs.Windows.{inside-parts, inside-true, below-with_reply}

pub in-item : (row : ClientRow) (k : ℕ) → in_window row k ≡ true → reply_to row k ≡ item_of row k
in-item row k here = ap (λ b. cond b (item_of row k) None) here

pub out-none : (row : ClientRow) (k : ℕ) → in_window row k ≡ false → reply_to row k ≡ None
out-none row k out = ap (λ b. cond b (item_of row k) None) out

differ : (b : Bool) → b ≡ true → b ≡ false → ⊥
differ b yes_ no_ = let contra : true ≡ false = sym yes_ ∙ no_ in let never : ⊥ = cc in never

-- ---- a request

before-none : (xs : List Item) (i : ℕ) → get_or (xs ++ None ∷ []) i None ≡ get_or xs i None
before-none [] zero = refl
before-none [] (suc i) = refl
before-none (x ∷ xs) zero = refl
before-none (x ∷ xs) (suc i) = before-none xs i

-- the window with so many items gone, and one more for the new request
module _ (row : ClientRow) (number k gone : ℕ) (window : List Item) (next : number ≡ row.last + 1) (whole : length window + gone ≡ length row.window) (bounded : length row.window ≤ row.last)
    (items : (i : ℕ) → get_or window i None ≡ get_or row.window (gone + i) None) where
  abbrev new : ClientRow
  new = record { last = number; window = window ++ None ∷ [] }

  size : length new.window ≡ length window + 1
  size = length-append window (None ∷ [])

  slid-item : in_window new k ≡ true → reply_to new k ≡ item_of row k
  slid-item here =
      let inside = inside-parts new k here in
      let long = size in
      let at : gone + item_place new k ≡ item_place row k = omega (arith, inside.0, inside.1, next, whole, bounded, long) in
      in-item new k here ∙ before-none window (item_place new k) ∙ items (item_place new k) ∙ ap (λ i. get_or row.window i None) at

  slid-old : in_window new k ≡ true → k ≤ row.last → (in_window row k ≡ true) × (reply_to new k ≡ reply_to row k)
  slid-old here old =
      let inside = inside-parts new k here in
      let long = size in
      let there = inside-true row k (omega (arith, inside.0, next, whole, bounded, long)) old in
      (there, slid-item here ∙ sym (in-item row k there))

  slid-new : row.last < k → reply_to new k ≡ None
  slid-new above =
      elim (in_window new k) as (λ b. in_window new k ≡ b → reply_to new k ≡ None) [
        | false ↦ λ out. out-none new k out
        | true ↦ λ here.
            let inside = inside-parts new k here in
            slid-item here ∙ get_or_past row.window (item_place row k) None (omega (arith, above, inside.1, next, bounded))
      ] refl

length-dropped : (xs : List Item) → 8 ≤ length xs → length (drop 1 xs) + 1 ≡ length xs
length-dropped [] h = absurd (omega arith)
length-dropped (x ∷ xs) h = omega arith

zero-gone : (window : List Item) (i : ℕ) → get_or window i None ≡ get_or window (0 + i) None
zero-gone window i = let same : i ≡ 0 + i = omega arith in ap (λ n. get_or window n None) same

module _ (row : ClientRow) (number k : ℕ) (bounded : length row.window ≤ row.last) (next : number ≡ row.last + 1) where
  -- a request that still has its place was in the window, and has the reply that it had
  pub request-keeps : in_window (with_request row number) k ≡ true → k ≤ row.last → (in_window row k ≡ true) × (reply_to (with_request row number) k ≡ reply_to row k)
  request-keeps here old =
      elim (nat_lt (length row.window) 8) as (λ b. nat_lt (length row.window) 8 ≡ b →
      in_window (record { last = number; window = cond b row.window (drop 1 row.window) ++ None ∷ [] }) k ≡ true →
      (in_window row k ≡ true) × (reply_to (record { last = number; window = cond b row.window (drop 1 row.window) ++ None ∷ [] }) k ≡ reply_to row k)) [
        | true ↦ λ _ at. slid-old row number k 0 row.window next (omega arith) bounded (zero-gone row.window) at old
        | false ↦ λ full at. slid-old row number k 1 (drop 1 row.window) next (length-dropped row.window (ltb-false (length row.window) 8 full)) bounded (λ i. get_or_after_one row.window i None) at old
      ] refl here

  -- the new one has none
  pub request-new : row.last < k → reply_to (with_request row number) k ≡ None
  request-new above =
      elim (nat_lt (length row.window) 8) as (λ b. nat_lt (length row.window) 8 ≡ b →
      reply_to (record { last = number; window = cond b row.window (drop 1 row.window) ++ None ∷ [] }) k ≡ None) [
        | true ↦ λ _. slid-new row number k 0 row.window next (omega arith) bounded (zero-gone row.window) above
        | false ↦ λ full. slid-new row number k 1 (drop 1 row.window) next (length-dropped row.window (ltb-false (length row.window) 8 full)) bounded (λ i. get_or_after_one row.window i None) above
      ] refl

-- two rows of one shape, whatever their replies are
pub record AreAlike (a b : ClientRow) : Type 0 where
  pub last : a.last ≡ b.last
  pub long : length a.window ≡ length b.window

pub alike-inside : (a b : ClientRow) (k : ℕ) → AreAlike a b → in_window a k ≡ in_window b k
alike-inside a b k alike = λ i. nat_lt (alike.last i - alike.long i) k && nat_le k (alike.last i)

long-place : (xs ys : List Item) → length xs ≡ length ys → length (with_place xs ++ None ∷ []) ≡ length (with_place ys ++ None ∷ [])
long-place xs ys long =
    let one = length-append (with_place xs) (None ∷ []) in
    let two = length-append (with_place ys) (None ∷ []) in
    let three : length (with_place xs) ≡ length (with_place ys) = at_either xs ∙ ap (λ n. cond (nat_lt n 8) n (n - 1)) long ∙ sym (at_either ys) in
    omega (arith, one, two, three)
  where
    less-one : (zs : List Item) → length (drop 1 zs) ≡ length zs - 1
    less-one [] = refl
    less-one (z ∷ zs) = omega arith

    at_either : (zs : List Item) → length (with_place zs) ≡ cond (nat_lt (length zs) 8) (length zs) (length zs - 1)
    at_either zs = elim (nat_lt (length zs) 8) as (λ b. length (cond b zs (drop 1 zs)) ≡ cond b (length zs) (length zs - 1)) [ true ↦ refl | false ↦ less-one zs ]

pub alike-request : (a b : ClientRow) (number : ℕ) → AreAlike a b → AreAlike (with_request a number) (with_request b number)
alike-request a b number alike = record { last = refl; long = long-place a.window b.window alike.long }

-- where they have the same reply, they still have it after a request
pub request-alike : (a b : ClientRow) (number k : ℕ) → AreAlike a b → length b.window ≤ b.last → number ≡ b.last + 1 → reply_to a k ≡ reply_to b k → reply_to (with_request a number) k ≡ reply_to (with_request b number) k
request-alike a b number k alike bounded next same =
    let last = alike.last in
    let long = alike.long in
    let bounded_a : length a.window ≤ a.last = omega (arith, bounded, last, long) in
    let next_a : number ≡ a.last + 1 = omega (arith, next, last) in
    let inside : in_window (with_request a number) k ≡ in_window (with_request b number) k = alike-inside (with_request a number) (with_request b number) k (alike-request a b number alike) in
    elim (nat_le k b.last) as (λ c. nat_le k b.last ≡ c → reply_to (with_request a number) k ≡ reply_to (with_request b number) k) [
      | false ↦ λ past.
          let above = leb-false k b.last past in
          request-new a number k bounded_a next_a (omega (arith, above, last)) ∙ sym (request-new b number k bounded next above)
      | true ↦ λ old.
          let within = leb-true k b.last old in
          elim (in_window (with_request b number) k) as (λ c. in_window (with_request b number) k ≡ c → reply_to (with_request a number) k ≡ reply_to (with_request b number) k) [
            | false ↦ λ out. out-none (with_request a number) k (inside ∙ out) ∙ sym (out-none (with_request b number) k out)
            | true ↦ λ here. (request-keeps a number k bounded_a next_a (inside ∙ here) (omega (arith, within, last))).1 ∙ same ∙ sym (request-keeps b number k bounded next here within).1
          ] refl
    ] refl

-- ---- a reply

-- the request has the reply
pub reply-here : (row : ClientRow) (n : ℕ) (reply : List ℕ) → in_window row n ≡ true → reply_to (with_reply row n reply) n ≡ Some reply
reply-here row n reply mine =
    let new = with_reply row n reply in
    let low : below new ≡ below row = below-with_reply row n reply in
    let same : in_window new n ≡ in_window row n = ap (λ b. nat_lt b n && nat_le n row.last) low in
    let its = inside-parts row n mine in
    in-item new n (same ∙ mine) ∙ ap (λ b. get_or new.window (n - b - 1) None) low
    ∙ set-here row.window (item_place row n) (omega (arith, its.0, its.1))
  where
    set-here : (xs : List Item) (i : ℕ) → i < length xs → get_or (set xs i (Some reply)) i None ≡ Some reply
    set-here [] i h = absurd (omega arith)
    set-here (x ∷ xs) zero h = refl
    set-here (x ∷ xs) (suc i) h = set-here xs i (omega arith)

-- each other one has the one that it had
pub reply-other : (row : ClientRow) (n k : ℕ) (reply : List ℕ) → in_window row n ≡ true → k ≢ n → reply_to (with_reply row n reply) k ≡ reply_to row k
reply-other row n k reply mine apart =
    let new = with_reply row n reply in
    let low : below new ≡ below row = below-with_reply row n reply in
    let same : in_window new k ≡ in_window row k = ap (λ b. nat_lt b k && nat_le k row.last) low in
    let its = inside-parts row n mine in
    elim (in_window row k) as (λ b. in_window row k ≡ b → reply_to new k ≡ reply_to row k) [
      | false ↦ λ out. out-none new k (same ∙ out) ∙ sym (out-none row k out)
      | true ↦ λ here.
          let inside = inside-parts row k here in
          let other : item_place row k ≢ item_place row n = λ one. apart (omega (arith, one, inside.0, its.0)) in
          in-item new k (same ∙ here) ∙ ap (λ b. get_or new.window (k - b - 1) None) low
          ∙ get_or-set_other row.window (item_place row n) (item_place row k) (Some reply) None other ∙ sym (in-item row k here)
    ] refl

-- ---- rows that have the same replies

ext : (xs ys : List Item) → length xs ≡ length ys → ((i : ℕ) → i < length xs → get_or xs i None ≡ get_or ys i None) → xs ≡ ys
ext [] [] long same = refl
ext [] (y ∷ ys) long same = absurd (omega (arith, long))
ext (x ∷ xs) [] long same = absurd (omega (arith, long))
ext (x ∷ xs) (y ∷ ys) long same =
    let first : x ≡ y = same 0 (omega arith) in
    let rest : xs ≡ ys = ext xs ys (omega (arith, long)) (λ i within. same (suc i) (omega (arith, within))) in
    λ i. first i ∷ rest i

pub same-row : (a b : ClientRow) → AreAlike a b → length a.window ≤ a.last → ((n : ℕ) → reply_to a n ≡ reply_to b n) → a ≡ b
same-row a b alike bounded same =
    let last = alike.last in
    let long = alike.long in
    let windows : a.window ≡ b.window = ext a.window b.window long (λ i within.
    let n : ℕ = below a + 1 + i in
    let n_is : n ≡ below a + 1 + i = refl in
    let at_a : item_place a n ≡ i = omega (arith, n_is, bounded) in
    let at_b : item_place b n ≡ i = omega (arith, n_is, bounded, last, long) in
    let in_a : in_window a n ≡ true = inside-true a n (omega (arith, n_is)) (omega (arith, n_is, within, bounded)) in
    let in_b : in_window b n ≡ true = inside-true b n (omega (arith, n_is, last, long, bounded)) (omega (arith, n_is, within, bounded, last, long)) in
    ap (λ j. get_or a.window j None) (sym at_a) ∙ sym (in-item a n in_a) ∙ same n ∙ in-item b n in_b ∙ ap (λ j. get_or b.window j None) at_b) in
    λ i. record { last = last i; window = windows i }
