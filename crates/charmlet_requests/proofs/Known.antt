-- What a row knows once something was told.
use Rattle.std.proofs.Common.{◌≡◌, ◌≢◌, ◌⊎◌, inl, inr, ℕ, ◌+◌, ◌-◌, ◌<◌, ◌≤◌, true, false, List, [], ◌∷◌, ◌++◌, length, length-append, get_or, drop, refl, sym, ap, subst, ◌∙◌, arith, zero, suc, if◌then◌else◌, Some, None, nat_lt}
use Rattle.std.specs.Prelude.{◌&&◌, is_none, nat_eq}
use Rattle.std.specs.Cmp.{nat_eq_equiv}
use Rattle.std.proofs.lemmas.Map.Views.{exact_unsigned_eq}
use Rattle.charmlet_model.proofs.Maps.{both_parts}
use Rattle.std.proofs.lemmas.Bool.{ltb-true, ltb-false}
use Rattle.std.proofs.lemmas.List.{length-drop, get_or-drop, get_or-set_same, get_or-set_other}
use Rattle.std.proofs.lemmas.Grind.{get_or_after_one}
use Rattle.charmlet_model.specs.declared.client.ClientRow.{ClientRow}
use Rattle.charmlet_model.specs.declared.told.Told.{Told}
use Rattle.charmlet_model.specs.declared.told.Told.TheVariants.{Unknown, Accepted, Replied, Past}
use Rattle.charmlet_model.specs.Row.{Item, awaits, below, in_window, item_of, item_place, reply_to, with_place, with_reply, with_request}
use Rattle.charmlet_model.specs.Told.{told_of, told_of_item}
use Rattle.charmlet_model.proofs.Windows.{inside-parts, inside-true, below-with_reply}
use Rattle.charmlet_requests.specs.Knowing.{IsWindowed, IsNoLess, passed, gone_on, reached, with_known_reply, heard}
use Rattle.charmlet_requests.proofs.Covering.{Keeps, Covers, covers-itself, covers-then, covers-request, covers-reply, windowed-request, replied-parts, replied-true, item-past, told-inside, told-below, told-known, says, Above, Waits, HasReply, Below}

-- no reply of the second row is new
abbrev pub InventsNone : ClientRow → ClientRow → Type 0
InventsNone old new = (k : ℕ) (reply : List ℕ) → reply_to new k ≡ Some reply → reply_to old k ≡ Some reply

-- ---- all up to a number are past

module _ (row : ClientRow) (number : ℕ) (windowed : IsWindowed row) where
  abbrev after_pass : ClientRow
  after_pass = passed row number

  abbrev gone : ℕ
  gone = number - below row

  count-passed : length after_pass.window ≡ length row.window - gone
  count-passed = length-drop gone row.window

  pub last-passed : (row.last ≤ after_pass.last) × (number ≤ after_pass.last) × ((after_pass.last ≡ row.last) ⊎ (after_pass.last ≡ number))
  last-passed = elim (nat_lt row.last number) as (λ b. nat_lt row.last number ≡ b →
      (row.last ≤ (if b then number else row.last)) × (number ≤ (if b then number else row.last)) × (((if b then number else row.last) ≡ row.last) ⊎ ((if b then number else row.last) ≡ number))) [
        | true ↦ λ is. let less = ltb-true row.last number is in (omega arith, omega arith, inr refl)
        | false ↦ λ is. let no = ltb-false row.last number is in (omega arith, omega arith, inl refl)
      ] refl

  pub below-passed : (below row ≤ below after_pass) × (number ≤ below after_pass) × ((below after_pass ≡ below row) ⊎ (below after_pass ≡ number))
  below-passed =
      let count = count-passed in
      let bounded = windowed.numbered in
      elim (nat_lt row.last number) as (λ b. nat_lt row.last number ≡ b →
      (below row ≤ (if b then number else row.last) - length after_pass.window) × (number ≤ (if b then number else row.last) - length after_pass.window)
      × (((if b then number else row.last) - length after_pass.window ≡ below row) ⊎ ((if b then number else row.last) - length after_pass.window ≡ number))) [
        | true ↦ λ is. let less = ltb-true row.last number is in (omega arith, omega arith, inr (omega arith))
        | false ↦ λ is.
            let no = ltb-false row.last number is in
            elim (nat_lt (below row) number) as (λ b. nat_lt (below row) number ≡ b →
            (below row ≤ row.last - length after_pass.window) × (number ≤ row.last - length after_pass.window)
            × ((row.last - length after_pass.window ≡ below row) ⊎ (row.last - length after_pass.window ≡ number))) [
              | true ↦ λ over. let above = ltb-true (below row) number over in (omega arith, omega arith, inr (omega arith))
              | false ↦ λ under. let within = ltb-false (below row) number under in (omega arith, omega arith, inl (omega arith))
            ] refl
      ] refl

  pub windowed-passed : IsWindowed after_pass
  windowed-passed =
      let count = count-passed in
      let few = windowed.few in
      let bounded = windowed.numbered in
      let last = last-passed.0 in
      record { few = omega arith; numbered = omega arith }

  -- a number above it has its item where it was
  place-passed : (k : ℕ) → below after_pass < k → k ≤ after_pass.last → gone + item_place after_pass k ≡ item_place row k
  place-passed k above within =
      let count = count-passed in
      let bounded = windowed.numbered in
      let under = below-passed in
      let ends = last-passed in
      elim under.2 [
        | inl same ↦ elim ends.2 [
          | inl last ↦ let more = under.1 in omega arith
          | inr last ↦ let more = under.1 in omega arith
        ]
        | inr same ↦ let more = under.0 in omega arith
      ]

  pub invents_none-passed : InventsNone row after_pass
  invents_none-passed k reply is =
      let parts = replied-parts after_pass k reply is in
      let inside = inside-parts after_pass k parts.0 in
      let above = inside.0 in
      let within = inside.1 in
      let under = below-passed.0 in
      let at = place-passed k above within in
      let here : item_of row k ≡ Some reply = ap (λ i. get_or row.window i None) (sym at) ∙ sym (get_or-drop gone row.window (item_place after_pass k) None) ∙ parts.1 in
      let stands = item-past row.window (item_place row k) reply here in
      replied-true row k reply (omega arith) (omega arith) here

  kept-passed : (k : ℕ) (reply : List ℕ) → reply_to row k ≡ Some reply → Keeps after_pass k reply
  kept-passed k reply is =
      let parts = replied-parts row k reply is in
      let inside = inside-parts row k parts.0 in
      let above = inside.0 in
      let within = inside.1 in
      elim (nat_lt (below after_pass) k) as (λ b. nat_lt (below after_pass) k ≡ b → Keeps after_pass k reply) [
        | true ↦ λ is.
            let over = ltb-true (below after_pass) k is in
            let last = last-passed.0 in
            let at = place-passed k over (omega arith) in
            inl (replied-true after_pass k reply over (omega arith)
            (get_or-drop gone row.window (item_place after_pass k) None ∙ ap (λ i. get_or row.window i None) at ∙ parts.1))
        | false ↦ λ is. inr (ltb-false (below after_pass) k is)
      ] refl

  pub covers-passed : Covers row after_pass
  covers-passed = record { last = last-passed.0; passed = below-passed.0; kept = kept-passed }

-- ---- one more

get_or-none : (xs : List Item) (i : ℕ) → get_or (xs ++ None ∷ []) i None ≡ get_or xs i None
get_or-none [] zero = refl
get_or-none [] (suc i) = refl
get_or-none (x ∷ xs) zero = refl
get_or-none (x ∷ xs) (suc i) = get_or-none xs i

module _ (row : ClientRow) (number : ℕ) (next : number ≡ row.last + 1) (windowed : IsWindowed row) where
  abbrev wider : ClientRow
  wider = with_request row number

  count-wider : length wider.window ≡ length (with_place row.window) + 1
  count-wider = length-append (with_place row.window) (None ∷ [])

  invents_none-request : InventsNone row wider
  invents_none-request k reply is =
      let parts = replied-parts wider k reply is in
      let inside = inside-parts wider k parts.0 in
      let above = inside.0 in
      let within = inside.1 in
      let bounded = windowed.numbered in
      let few = windowed.few in
      let count = count-wider in
      let there : get_or (with_place row.window) (item_place wider k) None ≡ Some reply = sym (get_or-none (with_place row.window) (item_place wider k)) ∙ parts.1 in
      let stands = item-past (with_place row.window) (item_place wider k) reply there in
      elim (nat_lt (length row.window) 8) as (λ b. nat_lt (length row.window) 8 ≡ b → reply_to row k ≡ Some reply) [
        | true ↦ λ less.
            let same : with_place row.window ≡ row.window = ap (λ b. if b then row.window else drop 1 row.window) less in
            let long = ap length same in
            let at : item_place wider k ≡ item_place row k = omega arith in
            replied-true row k reply (omega arith) (omega arith)
            (ap (λ i. get_or row.window i None) (sym at) ∙ ap (λ (xs : List Item). get_or xs (item_place wider k) None) (sym same) ∙ there)
        | false ↦ λ full.
            let is = ltb-false (length row.window) 8 full in
            let same : with_place row.window ≡ drop 1 row.window = ap (λ b. if b then row.window else drop 1 row.window) full in
            let long : length (with_place row.window) ≡ length row.window - 1 = ap length same ∙ length-drop 1 row.window in
            let at : 1 + item_place wider k ≡ item_place row k = omega arith in
            replied-true row k reply (omega arith) (omega arith)
            (ap (λ i. get_or row.window i None) (sym at) ∙ sym (get_or_after_one row.window (item_place wider k) None)
            ∙ ap (λ (xs : List Item). get_or xs (item_place wider k) None) (sym same) ∙ there)
      ] refl

  -- with room in the window nothing is past that wasn't
  below-roomy : length row.window < 8 → below wider ≡ below row
  below-roomy less =
      let bounded = windowed.numbered in
      let count = count-wider in
      elim (nat_lt (length row.window) 8) as (λ b. nat_lt (length row.window) 8 ≡ b → below wider ≡ below row) [
        | true ↦ λ is.
            let same : with_place row.window ≡ row.window = ap (λ b. if b then row.window else drop 1 row.window) is in
            let long = ap length same in
            omega arith
        | false ↦ λ no. let full = ltb-false (length row.window) 8 no in absurd (omega arith)
      ] refl

-- ---- several more

pub windowed-gone_on : (row : ClientRow) (more : ℕ) → IsWindowed row → IsWindowed (gone_on row more)
windowed-gone_on row zero h = h
windowed-gone_on row (suc more) h = windowed-gone_on (with_request row (row.last + 1)) more (windowed-request row (row.last + 1) refl h)

covers-gone_on : (row : ClientRow) (more : ℕ) → IsWindowed row → Covers row (gone_on row more)
covers-gone_on row zero h = covers-itself row
covers-gone_on row (suc more) h =
    let wider = with_request row (row.last + 1) in
    covers-then row wider (gone_on wider more) (covers-request row (row.last + 1) refl h) (covers-gone_on wider more (windowed-request row (row.last + 1) refl h))

last-gone_on : (row : ClientRow) (more : ℕ) → (gone_on row more).last ≡ row.last + more
last-gone_on row zero = omega arith
last-gone_on row (suc more) = omega (arith, last-gone_on (with_request row (row.last + 1)) more)

invents_none-gone_on : (row : ClientRow) (more : ℕ) → IsWindowed row → InventsNone row (gone_on row more)
invents_none-gone_on row zero h k reply is = is
invents_none-gone_on row (suc more) h k reply is =
    let wider = with_request row (row.last + 1) in
    invents_none-request row (row.last + 1) refl h k reply (invents_none-gone_on wider more (windowed-request row (row.last + 1) refl h) k reply is)

below-gone_on : (row : ClientRow) (more : ℕ) → IsWindowed row → row.last + more ≤ below row + 8 → below (gone_on row more) ≡ below row
below-gone_on row zero h room = refl
below-gone_on row (suc more) h room =
    let wider = with_request row (row.last + 1) in
    let bounded = h.numbered in
    let same = below-roomy row (row.last + 1) refl h (omega arith) in
    below-gone_on wider more (windowed-request row (row.last + 1) refl h) (omega arith) ∙ same

-- ---- all up to a number were accepted

module _ (row : ClientRow) (number : ℕ) (windowed : IsWindowed row) where
  abbrev near : ClientRow
  near = passed row (number - 8)

  abbrev there : ClientRow
  there = reached row number

  near-windowed : IsWindowed near
  near-windowed = windowed-passed row (number - 8) windowed

  pub windowed-reached : IsWindowed there
  windowed-reached = windowed-gone_on near (number - near.last) near-windowed

  pub covers-reached : Covers row there
  covers-reached = covers-then row near there (covers-passed row (number - 8) windowed) (covers-gone_on near (number - near.last) near-windowed)

  pub invents_none-reached : InventsNone row there
  invents_none-reached k reply is = invents_none-passed row (number - 8) windowed k reply (invents_none-gone_on near (number - near.last) near-windowed k reply is)

  pub last-reached : (number ≤ there.last) × ((there.last ≡ row.last) ⊎ (there.last ≤ number))
  last-reached =
      let last = last-gone_on near (number - near.last) in
      let ends = last-passed row (number - 8) windowed in (
        omega arith,
        elim (nat_lt near.last number) as (λ b. nat_lt near.last number ≡ b → (there.last ≡ row.last) ⊎ (there.last ≤ number)) [
          | true ↦ λ is. let less = ltb-true near.last number is in inr (omega arith)
          | false ↦ λ is.
              let no = ltb-false near.last number is in
              elim ends.2 [
                | inl same ↦ inl (omega arith)
                | inr same ↦ inr (omega arith)
              ]
        ] refl,
      )

  -- what is past then was so, or is eight or more before the number
  pub below-reached : (below there ≡ below row) ⊎ (below there ≤ number - 8)
  below-reached =
      let under = below-passed row (number - 8) windowed in
      let near_few = near-windowed.few in
      let near_bounded = near-windowed.numbered in
      let same : below there ≡ below near = below-gone_on near (number - near.last) near-windowed (room under.1) in
      elim under.2 [
        | inl is ↦ inl (same ∙ is)
        | inr is ↦ inr (omega arith)
      ]
    where
      room : number - 8 ≤ below near → near.last + (number - near.last) ≤ below near + 8
      room under =
          let few = near-windowed.few in
          let bounded = near-windowed.numbered in
          elim (nat_lt near.last number) as (λ b. nat_lt near.last number ≡ b → near.last + (number - near.last) ≤ below near + 8) [
            | true ↦ λ is. let less = ltb-true near.last number is in omega arith
            | false ↦ λ is. let no = ltb-false near.last number is in omega arith
          ] refl

-- ---- a reply is known

awaits-is : (row : ClientRow) (k : ℕ) → below row < k → k ≤ row.last → reply_to row k ≡ None → awaits row k ≡ true
awaits-is row k above within none =
    let inside = inside-true row k above within in
    let item : item_of row k ≡ None = sym (ap (λ b. if b then item_of row k else None) inside) ∙ none in
    ap (λ b. b && is_none (item_of row k)) inside ∙ ap is_none item

module _ (row : ClientRow) (number : ℕ) (reply : List ℕ) (windowed : IsWindowed row) where
  abbrev answered : ClientRow
  answered = with_known_reply row number reply

  either : (P : ClientRow → Type 0) → (awaits row number ≡ true → P (with_reply row number reply)) → P row → P answered
  either P here else_here = elim (awaits row number) as (λ b. awaits row number ≡ b → P (if b then with_reply row number reply else row)) [
    | true ↦ λ is. here is
    | false ↦ λ _. else_here
  ] refl

  pub covers-known : Covers row answered
  covers-known = either (Covers row) (covers-reply row number reply) (covers-itself row)

  pub last-known : answered.last ≡ row.last
  last-known = either (λ r. r.last ≡ row.last) (λ _. refl) refl

  pub below-known : below answered ≡ below row
  below-known = either (λ r. below r ≡ below row) (λ _. below-with_reply row number reply) refl

  -- a reply that is known then was so, or is this one
  pub known-then : (k : ℕ) (other : List ℕ) → reply_to answered k ≡ Some other → (reply_to row k ≡ Some other) ⊎ ((k ≡ number) × (reply ≡ other))
  known-then k other = either (λ r. reply_to r k ≡ Some other → (reply_to row k ≡ Some other) ⊎ ((k ≡ number) × (reply ≡ other))) (λ waits is. set-then waits is) inl
    where
      set-then : awaits row number ≡ true → reply_to (with_reply row number reply) k ≡ Some other → (reply_to row k ≡ Some other) ⊎ ((k ≡ number) × (reply ≡ other))
      set-then waits is =
          let new = with_reply row number reply in
          let parts = replied-parts new k other is in
          let inside = inside-parts new k parts.0 in
          let above = inside.0 in
          let within = inside.1 in
          let same : below new ≡ below row = below-with_reply row number reply in
          let mine = inside-parts row number (both_parts (in_window row number) (is_none (item_of row number)) waits).0 in
          let own = mine.0 in
          let own_within = mine.1 in
          let bounded = windowed.numbered in
          let at : item_place new k ≡ item_place row k = omega arith in
          elim (nat_eq k number) as (λ b. nat_eq k number ≡ b → (reply_to row k ≡ Some other) ⊎ ((k ≡ number) × (reply ≡ other))) [
            | true ↦ λ one.
                let is_it : k ≡ number = exact_unsigned_eq k number one in
                let place : item_place row k ≡ item_place row number = ap (item_place row) is_it in
                let set_here : Some reply ≡ Some other = sym (ap (λ i. get_or new.window i None) (at ∙ place) ∙ get_or-set_same row.window (item_place row number) (Some reply) None (omega arith)) ∙ parts.1 in
                inr (is_it, let equal : reply ≡ other = cc in equal)
            | false ↦ λ two.
                let apart : item_place row k ≢ item_place row number = λ one. let is_it : k ≡ number = omega arith in absurd (let no : true ≡ false = sym (subst (λ n. nat_eq k n ≡ true) is_it (nat_eq_equiv.refl k)) ∙ two in let contra : ⊥ = cc in contra) in
                inl (replied-true row k other (omega arith) within
                (sym (ap (λ i. get_or new.window i None) at ∙ get_or-set_other row.window (item_place row number) (item_place row k) (Some reply) None apart) ∙ parts.1))
          ] refl

  -- where the request had no reply, it has this one, or is past
  pub tells-known : number ≤ row.last → ((other : List ℕ) → reply_to row number ≡ Some other → other ≡ reply) → IsNoLess (Replied reply) (told_of answered number)
  tells-known known only = elim (says row number) [
    | Above above ↦ absurd (omega arith)
    | Waits within above none ↦
        let waits = awaits-is row number above within none in
        let bounded = windowed.numbered in
        let new = with_reply row number reply in
        let same : below new ≡ below row = below-with_reply row number reply in
        let is : answered ≡ new = ap (λ b. if b then with_reply row number reply else row) waits in
        let item : item_of new number ≡ Some reply = ap (λ b. get_or new.window (number - b - 1) None) same ∙ get_or-set_same row.window (item_place row number) (Some reply) None (omega arith) in
        let here : reply_to new number ≡ Some reply = replied-true new number reply (omega arith) within item in
        inl (ap (λ r. told_of r number) is ∙ told-inside new number (omega arith) within ∙ ap told_of_item here)
    | HasReply other within above some ↦
        let same : other ≡ reply = only other some in
        elim (covers-known.kept number other some) [
          | inl here ↦
              let inside = inside-parts answered number (replied-parts answered number other here).0 in
              inl (told-inside answered number inside.0 inside.1 ∙ ap told_of_item here ∙ ap Replied same)
          | inr past ↦ inr (told-below answered number past)
        ]
    | Below under ↦ inr (told-below answered number (let same = below-known in omega arith))
  ]

-- ---- what was told

module _ (row : ClientRow) (number : ℕ) (windowed : IsWindowed row) where
  -- no less is known of any request
  pub covers-heard : (told : Told) → Covers row (heard row number told)
  covers-heard Unknown = covers-itself row
  covers-heard Accepted = covers-reached row number windowed
  covers-heard (Replied reply) =
      covers-then row (reached row number) (heard row number (Replied reply)) (covers-reached row number windowed)
      (covers-known (reached row number) number reply (windowed-reached row number windowed))
  covers-heard Past = covers-passed row number windowed

  -- and of this one no less than what was told, where no more was known
  pub tells-heard : (told : Told) → IsNoLess (told_of row number) told → IsNoLess told (told_of (heard row number told) number)
  tells-heard Unknown h = tt
  tells-heard Accepted h = told-known (reached row number) number (last-reached row number windowed).0
  tells-heard (Replied reply) h =
      tells-known (reached row number) number reply (windowed-reached row number windowed) (last-reached row number windowed).0
      (λ other is. only other (invents_none-reached row number windowed number other is))
    where
      only : (other : List ℕ) → reply_to row number ≡ Some other → other ≡ reply
      only other is =
          let inside = inside-parts row number (replied-parts row number other is).0 in
          let says_so : told_of row number ≡ Replied other = told-inside row number inside.0 inside.1 ∙ ap told_of_item is in
          let no_less : IsNoLess (Replied other) (Replied reply) = subst (λ t. IsNoLess t (Replied reply)) says_so h in
          elim no_less [
            | inl same ↦ let one : other ≡ reply = cc in one
            | inr past ↦ absurd (let no : ⊥ = cc in no)
          ]
  tells-heard Past h = told-below (passed row number) number (below-passed row number windowed).1
