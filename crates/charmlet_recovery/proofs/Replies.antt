-- The last reply to a request is the one that its client's window keeps.
use Rattle.std.proofs.Common.{◌≡◌, ◌≢◌, ◌⊎◌, inl, inr, ℕ, zero, suc, ◌+◌, ◌-◌, ◌≤◌, Bool, true, false, cond, eqb, ◌&&◌, List, [], ◌∷◌, ◌++◌, length, drop, get_or, set, refl, sym, ap, subst, ◌∙◌, arith, length-append}
use Rattle.std.specs.Prelude.{Some, None, is_some, nat_lt, nat_le}
use Rattle.std.specs.Ordering.{nat_cmp, eq_by_cmp, is_eq}
use Rattle.std.specs.Cmp.{nat_cmp_total}
use Rattle.std.specs.List.{AllByRecursion}
use Rattle.std.proofs.lemmas.Bool.{eqb-true, eq-eqb, ltb-false, leb-true, leb-false}
use Rattle.std.proofs.lemmas.Cmp.{tied_itself}
use Rattle.std.proofs.lemmas.List.{get_or-set_other, get_or_past}
use Rattle.std.proofs.lemmas.Grind.{get_or-set_at, get_or_after_one}
use Rattle.std.proofs.lemmas.Map.Lookups.{exact_unsigned}
use Rattle.std.proofs.lemmas.Map.Views.{tells_apart}
use Rattle.charmlet_model.specs.declared.names.Origin.{Origin}
use Rattle.charmlet_model.specs.declared.names.Origin.TheVariants.{Client, Element}
use Rattle.charmlet_model.specs.declared.client.ClientRow.{ClientRow}
use Rattle.charmlet_model.specs.declared.event.Event.{Event}
use Rattle.charmlet_model.specs.declared.event.Event.TheVariants as events
use Rattle.charmlet_model.specs.declared.reaction.Reaction.{Reaction}
use Rattle.charmlet_model.specs.Row.{Item, below, in_window, item_place, item_of, reply_to, with_request, with_reply}
use Rattle.charmlet_model.specs.Fit.{IsFit, IsRow, IsMessage, WasSent}
use Rattle.charmlet_model.specs.World.{World, world, after, can, can_all, answered, row_of, client_of, IsEvent}
use Rattle.charmlet_model.proofs.Maps.{both_parts}
use Rattle.charmlet_model.proofs.SeqNos.{next_number}
use Rattle.charmlet_model.proofs.Fits.{found, fit-after}
use Rattle.charmlet_model.proofs.Histories.{row_of-insert}
use Rattle.charmlet_model.proofs.Windows.{inside-parts, inside-true, awaited-parts, below-with_reply}
use Rattle.charmlet_recovery.specs.Replays.{or_else, reply_in, reply_of, reply_by, last_reply, reply_if}
use Rattle.charmlet_recovery.specs.ReplayLaws.{RepliesAreLast}
use Rattle.charmlet_recovery.proofs.Steps.{happening, after-happening}

-- an event leaves its own reply, or else the one before, or none
abbrev Leaves : Item → Item → Item → Type 0
Leaves next own old = (next ≡ or_else own old) ⊎ (next ≡ None)

in-item : (row : ClientRow) (k : ℕ) → in_window row k ≡ true → reply_to row k ≡ item_of row k
in-item row k here = ap (λ b. cond b (item_of row k) None) here

out-none : (row : ClientRow) (k : ℕ) → in_window row k ≡ false → reply_to row k ≡ None
out-none row k out = ap (λ b. cond b (item_of row k) None) out

-- ---- a request

get-before-none : (xs : List Item) (i : ℕ) → get_or (xs ++ None ∷ []) i None ≡ get_or xs i None
get-before-none [] zero = refl
get-before-none [] (suc i) = refl
get-before-none (x ∷ xs) zero = refl
get-before-none (x ∷ xs) (suc i) = get-before-none xs i

-- the window with so many items gone, and one more for the new request
slid : (row : ClientRow) (number k gone : ℕ) (window : List Item) → number ≡ row.last + 1 → length window + gone ≡ length row.window → length row.window ≤ row.last →
    ((i : ℕ) → get_or window i None ≡ get_or row.window (gone + i) None) →
    Leaves (reply_to (record { last = number; window = window ++ None ∷ [] }) k) None (reply_to row k)
slid row number k gone window next whole bounded items =
    let new : ClientRow = record { last = number; window = window ++ None ∷ [] } in
    let size = length-append window (None ∷ []) in
    elim (in_window new k) as (λ b. in_window new k ≡ b → Leaves (reply_to new k) None (reply_to row k)) [
      | false ↦ λ out. inr (out-none new k out)
      | true ↦ λ here.
          let inside = inside-parts new k here in
          let above = inside.0 in
          let within = inside.1 in
          let at : gone + item_place new k ≡ item_place row k = omega (arith, above, within, next, whole, bounded, size) in
          let item : reply_to new k ≡ item_of row k =
          in-item new k here ∙ get-before-none window (item_place new k) ∙ items (item_place new k) ∙ ap (λ i. get_or row.window i None) at in
          elim (nat_le k row.last) as (λ b. nat_le k row.last ≡ b → Leaves (reply_to new k) None (reply_to row k)) [
            | true ↦ λ old. inl (item ∙ sym (in-item row k (inside-true row k (omega (arith, above, next, whole, bounded, size)) (leb-true k row.last old))))
            | false ↦ λ new_one.
                let past : length row.window ≤ item_place row k = omega (arith, leb-false k row.last new_one, within, next, bounded) in
                inr (item ∙ get_or_past row.window (item_place row k) None past)
          ] refl
    ] refl

length-dropped : (xs : List Item) → 8 ≤ length xs → length (drop 1 xs) + 1 ≡ length xs
length-dropped [] h = absurd (omega arith)
length-dropped (x ∷ xs) h = omega arith

request-leaves : (row : ClientRow) (number k : ℕ) → IsRow row → number ≡ row.last + 1 → Leaves (reply_to (with_request row number) k) None (reply_to row k)
request-leaves row number k r next =
    elim (nat_lt (length row.window) 8) as (λ b. nat_lt (length row.window) 8 ≡ b →
    Leaves (reply_to (record { last = number; window = cond b row.window (drop 1 row.window) ++ None ∷ [] }) k) None (reply_to row k)) [
      | true ↦ λ _. slid row number k 0 row.window next (omega arith) r.numbered (λ i. let same : i ≡ 0 + i = omega arith in ap (λ n. get_or row.window n None) same)
      | false ↦ λ full. slid row number k 1 (drop 1 row.window) next (length-dropped row.window (ltb-false (length row.window) 8 full)) r.numbered (λ i. get_or_after_one row.window i None)
    ] refl

-- ---- a reply

reply-leaves : (row : ClientRow) (n k : ℕ) (reply : List ℕ) → in_window row n ≡ true → reply_to (with_reply row n reply) k ≡ or_else (cond (eqb k n) (Some reply) None) (reply_to row k)
reply-leaves row n k reply mine =
    let new = with_reply row n reply in
    let low : below new ≡ below row = below-with_reply row n reply in
    let same : in_window new k ≡ in_window row k = ap (λ b. nat_lt b k && nat_le k row.last) low in
    let its = inside-parts row n mine in
    elim (in_window row k) as (λ b. in_window row k ≡ b → reply_to new k ≡ or_else (cond (eqb k n) (Some reply) None) (reply_to row k)) [
      | false ↦ λ out.
          elim (eqb k n) as (λ b. eqb k n ≡ b → reply_to new k ≡ or_else (cond b (Some reply) None) (reply_to row k)) [
            | true ↦ λ is. absurd (let here : in_window row k ≡ true = ap (in_window row) (eqb-true k n is) ∙ mine in let no : true ≡ false = sym here ∙ out in let contra : ⊥ = cc in contra)
            | false ↦ λ _. out-none new k (same ∙ out) ∙ sym (out-none row k out)
          ] refl
      | true ↦ λ here.
          let inside = inside-parts row k here in
          let item : reply_to new k ≡ get_or (set row.window (item_place row n) (Some reply)) (item_place row k) None =
          in-item new k (same ∙ here) ∙ ap (λ b. get_or (set row.window (item_place row n) (Some reply)) (k - b - 1) None) low in
          elim (eqb k n) as (λ b. eqb k n ≡ b → reply_to new k ≡ or_else (cond b (Some reply) None) (reply_to row k)) [
            | true ↦ λ is.
                let place : item_place row k ≡ item_place row n = ap (item_place row) (eqb-true k n is) in
                item ∙ get_or-set_at row.window (item_place row n) (item_place row k) (Some reply) None place (omega (arith, its.0, its.1))
            | false ↦ λ apart.
                let other : item_place row k ≢ item_place row n = λ one. differ (eq-eqb k n (omega (arith, one, inside.0, its.0))) apart in
                item ∙ get_or-set_other row.window (item_place row n) (item_place row k) (Some reply) None other ∙ sym (in-item row k here)
          ] refl
    ] refl
  where
    differ : eqb k n ≡ true → eqb k n ≡ false → ⊥
    differ same apart = let contra : true ≡ false = sym same ∙ apart in cc

-- ---- events

by-origin : (w : World) (c k : ℕ) (origin : Origin) (n : ℕ) (o : Reaction) → WasSent w origin n →
    reply_to (row_of (answered w.clients origin n o.reply) c) k ≡ or_else (reply_in c k (record { origin = origin; number = n }) (Some o)) (reply_to (client_of w c) k)
by-origin w c k (Element x) n o sent = refl
by-origin w c k (Client d) n o sent =
    let next = with_reply (row_of w.clients d) n o.reply in
    let mine = (awaited-parts (client_of w d) n sent).0 in
    ap (λ row. reply_to row k) (row_of-insert w.clients d next c)
    ∙ elim (eqb c d) as (λ b. eqb c d ≡ b → reply_to (cond (eq_by_cmp nat_cmp c d) next (row_of w.clients c)) k ≡ or_else (cond (b && eqb k n) (Some o.reply) None) (reply_to (client_of w c) k)) [
      | true ↦ λ is.
          let one = eqb-true c d is in
          let tied : eq_by_cmp nat_cmp c d ≡ true = ap (eq_by_cmp nat_cmp c) (sym one) ∙ ap is_eq (tied_itself nat_cmp_total c) in
          ap (λ b. reply_to (cond b next (row_of w.clients c)) k) tied
          ∙ reply-leaves (row_of w.clients d) n k o.reply mine
          ∙ ap (λ e. or_else (cond (eqb k n) (Some o.reply) None) (reply_to (client_of w e) k)) (sym one)
      | false ↦ λ apart. elsewhere next apart (eq_by_cmp nat_cmp c d) refl
    ] refl
  where
    elsewhere : (next : ClientRow) → eqb c d ≡ false → (b : Bool) → eq_by_cmp nat_cmp c d ≡ b → reply_to (cond b next (row_of w.clients c)) k ≡ reply_to (client_of w c) k
    elsewhere next apart true is = absurd (let no : true ≡ false = sym (eq-eqb c d (tells_apart exact_unsigned c d is)) ∙ apart in let contra : ⊥ = cc in contra)
    elsewhere next apart false is = refl

by-event : (w : World) (c k : ℕ) (e : Event) → IsFit w → can w e ≡ true → Leaves (reply_to (client_of (after w e) c) k) (reply_by c k w e) (reply_to (client_of w c) k)
by-event w c k (events.Deliver id) fit able =
    let h = happening w id fit able in
    let message : IsMessage w h.message = found (IsMessage w) id w.pending h.message h.is_message fit.messages in
    let own : reply_by c k w (events.Deliver id) ≡ reply_in c k h.message.id (Some h.outcome) = ap (reply_of c k w) h.is_message ∙ ap (reply_in c k h.message.id) h.is_outcome in
    inl (
    ap (λ v. reply_to (client_of v c) k) (after-happening w id h)
    ∙ by-origin w c k h.message.id.origin h.message.id.number h.outcome message.sent
    ∙ ap (λ o. or_else o (reply_to (client_of w c) k)) (sym own)
    )
by-event w c k (events.Accept client number to entry words) fit able =
    let next = with_request (client_of w client) number in
    let last = next_number w client number to entry words able in
    subst (λ row. Leaves (reply_to row k) None (reply_to (client_of w c) k)) (sym (row_of-insert w.clients client next c))
    (elim (eq_by_cmp nat_cmp c client) as (λ b. eq_by_cmp nat_cmp c client ≡ b → Leaves (reply_to (cond b next (client_of w c)) k) None (reply_to (client_of w c) k)) [
      | true ↦ λ same.
          subst (λ d. Leaves (reply_to next k) None (reply_to (client_of w d) k)) (sym (tells_apart exact_unsigned c client same)) (request-leaves (client_of w client) number k (fit.clients client) last)
      | false ↦ λ _. inl refl
    ] refl)

-- ---- a history

kept-itself : (o : Item) → o ≡ reply_if (is_some o) o
kept-itself None = refl
kept-itself (Some reply) = refl

combined : (end last next own old : Item) → end ≡ reply_if (is_some end) (or_else last next) → Leaves next own old → end ≡ reply_if (is_some end) (or_else (or_else last own) old)
combined end (Some reply) next own old h leaves = h
combined end None next own old h (inl is) = h ∙ ap (reply_if (is_some end)) is
combined None None next own old h (inr none) = refl
combined (Some reply) None next own old h (inr none) = absurd (let same : Some reply ≡ None = h ∙ none in let no : ⊥ = cc in no)

replies-last : (w : World) (history : List Event) (c k : ℕ) → IsFit w → AllByRecursion IsEvent history → can_all w history ≡ true →
    reply_to (client_of (world w history) c) k ≡ reply_if (is_some (reply_to (client_of (world w history) c) k)) (or_else (last_reply c k w history) (reply_to (client_of w c) k))
replies-last w [] c k fit events h = kept-itself (reply_to (client_of w c) k)
replies-last w (e ∷ es) c k fit typed h =
    let parts = both_parts (can w e) (can_all (after w e) es) h in
    combined (reply_to (client_of (world (after w e) es) c) k) (last_reply c k (after w e) es) (reply_to (client_of (after w e) c) k) (reply_by c k w e) (reply_to (client_of w c) k)
    (replies-last (after w e) es c k (fit-after w e fit typed.0 parts.0) typed.1 parts.1) (by-event w c k e fit parts.0)

pub replies_are_last : RepliesAreLast
replies_are_last w before history client number fit legal = replies-last w history client number fit legal.events legal.each_can
