-- A client's window has each of its last eight requests that was accepted since the store opened.
use Rattle.std.proofs.Common.{◌≡◌, ◌⊎◌, inl, inr, ℕ, ◌+◌, ◌-◌, ◌<◌, ◌≤◌, true, false, cond, List, [], ◌∷◌, ◌++◌, length, length-append, drop, refl, sym, ap, subst, ◌∙◌, arith, if◌then◌else◌, nat_lt, Option, Some, None}
use Rattle.std.proofs.lemmas.Bool.{ltb-false, ltb-true}
use Rattle.std.proofs.lemmas.Map.Lookups.{exact_unsigned}
use Rattle.std.proofs.lemmas.Map.Views.{exact_unsigned_eq, tells_apart}
use Rattle.std.specs.Ordering.{eq_by_cmp, nat_cmp}
use Rattle.charmlet_model.specs.declared.client.ClientRow.{ClientRow}
use Rattle.charmlet_model.specs.declared.event.Event.{Event}
use Rattle.charmlet_model.specs.declared.event.Event.TheVariants.{Accept, Deliver}
use Rattle.charmlet_model.specs.declared.message.Message.{Message}
use Rattle.charmlet_model.specs.declared.names.Origin.{Origin}
use Rattle.charmlet_model.specs.declared.names.Origin.TheVariants.{Client, Element}
use Rattle.charmlet_model.specs.declared.reaction.Reaction.{Reaction}
use Rattle.charmlet_model.specs.Row.{Item, below, with_place, with_reply, with_request}
use Rattle.charmlet_model.specs.World.{World, after, answered, can, can_all, client_of, delivered, message_among, performed, reaction_of, row_of, world}
use Rattle.charmlet_model.proofs.Histories.{row_of-insert}
use Rattle.charmlet_model.proofs.Maps.{both_parts}
use Rattle.charmlet_model.proofs.Windows.{below-with_reply}

-- ---- what a reply and the next request keep of a row, a history keeps

module _ (Q : ClientRow → Type 0) (replied : (row : ClientRow) (number : ℕ) (reply : List ℕ) → Q row → Q (with_reply row number reply))
    (requested : (row : ClientRow) (number : ℕ) → number ≡ row.last + 1 → Q row → Q (with_request row number)) where
  abbrev All : List (ℕ × ClientRow) → ℕ → Type 0
  All clients c = Q (row_of clients c)

  kept-answered : (clients : List (ℕ × ClientRow)) (origin : Origin) (number : ℕ) (reply : List ℕ) (c : ℕ) → All clients c → All (answered clients origin number reply) c
  kept-answered clients (Element x) number reply c h = h
  kept-answered clients (Client k) number reply c h =
      let row : ClientRow = with_reply (row_of clients k) number reply in
      subst Q (sym (row_of-insert clients k row c))
      (elim (eq_by_cmp nat_cmp c k) as (λ b. eq_by_cmp nat_cmp c k ≡ b → Q (cond b row (row_of clients c))) [
        | true ↦ λ same. replied (row_of clients k) number reply (subst (All clients) (tells_apart exact_unsigned c k same) h)
        | false ↦ λ _. h
      ] refl)

  kept-performed : (w : World) (m : Message) (o : Option Reaction) (c : ℕ) → Q (client_of w c) → Q (client_of (performed w m o) c)
  kept-performed w m None c h = h
  kept-performed w m (Some o) c h = kept-answered w.clients m.id.origin m.id.number o.reply c h

  kept-delivered : (w : World) (m : Option Message) (c : ℕ) → Q (client_of w c) → Q (client_of (delivered w m) c)
  kept-delivered w None c h = h
  kept-delivered w (Some m) c h = kept-performed w m (reaction_of w m) c h

  kept-after : (w : World) (e : Event) (c : ℕ) → can w e ≡ true → Q (client_of w c) → Q (client_of (after w e) c)
  kept-after w (Deliver id) c able h = kept-delivered w (message_among id w.pending) c h
  kept-after w (Accept client number to entry words) c able h =
      let old = client_of w client in
      let row : ClientRow = with_request old number in
      let next = both_parts _ _ (both_parts _ _ (both_parts _ _ (both_parts _ _ able).0).0).0 in
      let is : number ≡ old.last + 1 = exact_unsigned_eq _ _ (both_parts _ _ next.0).0 in
      subst Q (sym (row_of-insert w.clients client row c))
      (elim (eq_by_cmp nat_cmp c client) as (λ b. eq_by_cmp nat_cmp c client ≡ b → Q (cond b row (client_of w c))) [
        | true ↦ λ same. requested old number is (subst (All w.clients) (tells_apart exact_unsigned c client same) h)
        | false ↦ λ _. h
      ] refl)

  kept-world : (w : World) (history : List Event) (c : ℕ) → can_all w history ≡ true → Q (client_of w c) → Q (client_of (world w history) c)
  kept-world w [] c legal h = h
  kept-world w (e ∷ es) c legal h =
      let parts = both_parts (can w e) (can_all (after w e) es) legal in
      kept-world (after w e) es c parts.1 (kept-after w e c parts.0 h)

-- ---- what lies below a window

-- what lies below the window was so when the last number was this one, or lies eight below the last
abbrev Reaches : ℕ → ClientRow → Type 0
Reaches first row = (below row ≤ first) ⊎ (below row + 8 ≤ row.last)

reaches-replied : (first : ℕ) (row : ClientRow) (number : ℕ) (reply : List ℕ) → Reaches first row → Reaches first (with_reply row number reply)
reaches-replied first row number reply h =
    let same : below (with_reply row number reply) ≡ below row = below-with_reply row number reply in
    elim h [ inl low ↦ inl (omega arith) | inr eight ↦ inr (omega arith) ]

length-dropped : (xs : List Item) → 1 ≤ length xs → length (drop 1 xs) + 1 ≡ length xs
length-dropped [] h = absurd (omega arith)
length-dropped (x ∷ xs) h = omega arith

reaches-requested : (first : ℕ) (row : ClientRow) (number : ℕ) → number ≡ row.last + 1 → Reaches first row → Reaches first (with_request row number)
reaches-requested first row number is h =
    let none : List Item = None ∷ [] in
    let whole = length-append (with_place row.window) none in
    elim (nat_lt (length row.window) 8) as (λ b. nat_lt (length row.window) 8 ≡ b → Reaches first (with_request row number)) [
      | true ↦ λ less.
          let same : with_place row.window ≡ row.window = ap (λ b. if b then row.window else drop 1 row.window) less in
          let long = ap length same in
          elim h [ inl low ↦ inl (omega arith) | inr eight ↦ inr (omega arith) ]
      | false ↦ λ full.
          let many = ltb-false (length row.window) 8 full in
          let same : length (with_place row.window) ≡ length (drop 1 row.window) = ap (λ b. length (if b then row.window else drop 1 row.window)) full in
          let one = length-dropped row.window (omega arith) in
          elim (nat_lt 0 (below (with_request row number))) as (λ b. nat_lt 0 (below (with_request row number)) ≡ b → Reaches first (with_request row number)) [
            | true ↦ λ some. let above = ltb-true 0 (below (with_request row number)) some in inr (omega arith)
            | false ↦ λ none. let zero = ltb-false 0 (below (with_request row number)) none in inl (omega arith)
          ] refl
    ] refl

-- a number that is no more than eight below the last one, and came after the first one, is above
-- what lies below the window
pub reaches : (w : World) (history : List Event) (client number : ℕ) → can_all w history ≡ true → (client_of w client).last < number →
    (client_of (world w history) client).last < number + 8 → below (client_of (world w history) client) < number
reaches w history client number legal above within =
    let first = (client_of w client).last in
    let row = client_of (world w history) client in
    let it : Reaches first row = kept-world (Reaches first) (reaches-replied first) (reaches-requested first) w history client legal (inl (omega arith)) in
    elim it [ inl low ↦ omega arith | inr eight ↦ omega arith ]
