-- A request is delivered once.
use Rattle.std.proofs.Common.{◌≡◌, ℕ, ◌+◌, ◌≤◌, ◌==◌, true, false, cond, ◌&&◌, List, [], ◌∷◌, length, refl, sym, ap, subst, ◌∙◌, arith, if◌then◌else◌, Some, None, nat_lt}
use Rattle.std.specs.Prelude.{is_some, nat_le}
use Rattle.std.specs.Ordering.{eq_by_cmp, nat_cmp}
use Rattle.std.specs.List.{AllByRecursion}
use Rattle.std.proofs.lemmas.Bool.{eq-eqb, eqb-true, leb-true}
use Rattle.std.proofs.lemmas.Map.Lookups.{exact_unsigned}
use Rattle.std.proofs.lemmas.Map.Views.{tells_apart}
use Rattle.charmlet_model.specs.declared.client.ClientRow.{ClientRow}
use Rattle.charmlet_model.specs.declared.event.Event.{Event}
use Rattle.charmlet_model.specs.declared.event.Event.TheVariants as events
use Rattle.charmlet_model.specs.declared.names.MsgId.{MsgId}
use Rattle.charmlet_model.specs.declared.names.Origin.{Origin}
use Rattle.charmlet_model.specs.declared.names.Origin.TheVariants.{Client, Element}
use Rattle.charmlet_model.specs.Fit.{IsFit, IsMessage, WasSent}
use Rattle.charmlet_model.specs.Names.{same_id}
use Rattle.charmlet_model.specs.Row.{in_window, item_of, reply_to, with_reply, with_request}
use Rattle.charmlet_model.specs.World.{IsEvent, World, after, answered, can, can_all, client_of, row_of, world}
use Rattle.charmlet_model.proofs.SeqNos.{next_number}
use Rattle.charmlet_model.proofs.Fits.{fit-after, found, same_id-is, tied_itself-nat}
use Rattle.charmlet_model.proofs.Histories.{row_of-insert}
use Rattle.charmlet_model.proofs.Maps.{both_parts}
use Rattle.charmlet_model.proofs.Windows.{awaited-parts, below-with_reply}
use Rattle.charmlet_recovery.specs.Replays.{last_reply, or_else, reply_by, reply_in, reply_of}
use Rattle.charmlet_recovery.proofs.Steps.{Happens, after-happening, happening}
use Rattle.charmlet_replayers.proofs.RepliesLemmas.Rows.{in-item, reply-here, reply-other, request-keeps}

-- the request was accepted, and doesn't wait for its reply any more
pub record IsAnswered (row : ClientRow) (n : ℕ) : Type 0 where
  pub last : n ≤ row.last
  pub reply : in_window row n ≡ true → is_some (reply_to row n) ≡ true

-- ---- one row

pub answered-request : (row : ClientRow) (number k : ℕ) → length row.window ≤ row.last → number ≡ row.last + 1 → IsAnswered row k → IsAnswered (with_request row number) k
answered-request row number k bounded next is =
    let old = is.last in
    record {
      last = omega (arith, next, old);
      reply = λ here. let kept = request-keeps row number k bounded next here old in ap is_some kept.1 ∙ is.reply kept.0;
    }

module _ (row : ClientRow) (n : ℕ) (reply : List ℕ) (mine : in_window row n ≡ true) where
  same_window : (k : ℕ) → in_window (with_reply row n reply) k ≡ in_window row k
  same_window k = ap (λ b. nat_lt b k && nat_le k row.last) (below-with_reply row n reply)

  pub answered-here : n ≤ row.last → IsAnswered (with_reply row n reply) n
  answered-here within = record { last = within; reply = λ _. ap is_some (reply-here row n reply mine) }

  pub answered-other : (k : ℕ) → IsAnswered row k → IsAnswered (with_reply row n reply) k
  answered-other k is = record {
    last = is.last;
    reply = λ here.
        elim (k == n) as (λ b. (k == n) ≡ b → is_some (reply_to (with_reply row n reply) k) ≡ true) [
          | true ↦ λ same. ap (λ j. is_some (reply_to (with_reply row n reply) j)) (eqb-true k n same) ∙ ap is_some (reply-here row n reply mine)
          | false ↦ λ apart.
              ap is_some (reply-other row n k reply mine (λ one. let yes_too : true ≡ false = sym (eq-eqb k n one) ∙ apart in let never : ⊥ = cc in never))
              ∙ is.reply (sym (same_window k) ∙ here)
        ] refl;
  }

-- ---- one event

module _ (w : World) (c k : ℕ) where
  by-origin : (origin : Origin) (n : ℕ) (reply : List ℕ) → WasSent w origin n → IsAnswered (client_of w c) k → IsAnswered (row_of (answered w.clients origin n reply) c) k
  by-origin (Element x) n reply sent is = is
  by-origin (Client d) n reply sent is =
      let next = with_reply (row_of w.clients d) n reply in
      let mine = (awaited-parts (client_of w d) n sent).0 in
      subst (λ row. IsAnswered row k) (sym (row_of-insert w.clients d next c))
      (elim (eq_by_cmp nat_cmp c d) as (λ b. eq_by_cmp nat_cmp c d ≡ b → IsAnswered (cond b next (row_of w.clients c)) k) [
        | true ↦ λ same. answered-other (row_of w.clients d) n reply mine k (subst (λ e. IsAnswered (row_of w.clients e) k) (tells_apart exact_unsigned c d same) is)
        | false ↦ λ _. is
      ] refl)

  pub answered-after : (e : Event) → IsFit w → can w e ≡ true → IsAnswered (client_of w c) k → IsAnswered (client_of (after w e) c) k
  answered-after (events.Deliver id) fit able is =
      let h = happening w id fit able in
      let message : IsMessage w h.message = found (IsMessage w) id w.pending h.message h.is_message fit.messages in
      subst (λ v. IsAnswered (client_of v c) k) (sym (after-happening w id h)) (by-origin h.message.id.origin h.message.id.number h.outcome.reply message.sent is)
  answered-after (events.Accept client number to entry words) fit able is =
      let next = with_request (client_of w client) number in
      let last = next_number w client number to entry words able in
      subst (λ row. IsAnswered row k) (sym (row_of-insert w.clients client next c))
      (elim (eq_by_cmp nat_cmp c client) as (λ b. eq_by_cmp nat_cmp c client ≡ b → IsAnswered (cond b next (client_of w c)) k) [
        | true ↦ λ same.
            answered-request (client_of w client) number k (fit.clients client).numbered last
            (subst (λ d. IsAnswered (client_of w d) k) (tells_apart exact_unsigned c client same) is)
        | false ↦ λ _. is
      ] refl)

  -- what a delivery replies to a request
  pub replied : (id : MsgId) (h : Happens w id) → reply_by c k w (events.Deliver id) ≡ reply_in c k h.message.id (Some h.outcome)
  replied id h = ap (reply_of c k w) h.is_message ∙ ap (reply_in c k h.message.id) h.is_outcome

  -- it isn't delivered again
  pub not-again : (e : Event) → IsFit w → can w e ≡ true → IsAnswered (client_of w c) k → reply_by c k w e ≡ None
  not-again (events.Accept client number to entry words) fit able is = refl
  not-again (events.Deliver id) fit able is =
      let h = happening w id fit able in
      let message : IsMessage w h.message = found (IsMessage w) id w.pending h.message h.is_message fit.messages in
      let its : MsgId = record { origin = Client c; number = k } in
      replied id h
      ∙ (elim (same_id its h.message.id) as (λ b. same_id its h.message.id ≡ b → (if b then Some h.outcome.reply else None) ≡ None) [
        | false ↦ λ _. refl
        | true ↦ λ same.
            let one : its ≡ h.message.id = same_id-is its h.message.id same in
            let sent : WasSent w (Client c) k = subst (λ (i : MsgId). WasSent w i.origin i.number) (sym one) message.sent in
            absurd (waits (awaited-parts (client_of w c) k sent))
      ] refl)
    where
      waits : (in_window (client_of w c) k ≡ true) × (item_of (client_of w c) k ≡ None) → ⊥
      waits parts =
          let none : reply_to (client_of w c) k ≡ None = in-item (client_of w c) k parts.0 ∙ parts.1 in
          let no_reply : true ≡ false = sym (is.reply parts.0) ∙ ap is_some none in
          let never : ⊥ = cc in never

  -- what an event replies to is answered then
  pub now-answered : (e : Event) (words : List ℕ) → IsFit w → can w e ≡ true → reply_by c k w e ≡ Some words → IsAnswered (client_of (after w e) c) k
  now-answered (events.Accept client number to entry others) words fit able is = absurd (let never : ⊥ = cc in never)
  now-answered (events.Deliver id) words fit able is =
      let h = happening w id fit able in
      let message : IsMessage w h.message = found (IsMessage w) id w.pending h.message h.is_message fit.messages in
      let its : MsgId = record { origin = Client c; number = k } in
      subst (λ v. IsAnswered (client_of v c) k) (sym (after-happening w id h))
      (elim (same_id its h.message.id) as (λ b. same_id its h.message.id ≡ b → (if b then Some h.outcome.reply else None) ≡ Some words → IsAnswered (row_of (answered w.clients h.message.id.origin h.message.id.number h.outcome.reply) c) k) [
        | false ↦ λ _ none. absurd (let never : ⊥ = cc in never)
        | true ↦ λ same _.
            let one : its ≡ h.message.id = same_id-is its h.message.id same in
            let sent : WasSent w (Client c) k = subst (λ (i : MsgId). WasSent w i.origin i.number) (sym one) message.sent in
            subst (λ (i : MsgId). IsAnswered (row_of (answered w.clients i.origin i.number h.outcome.reply) c) k) one (itself h.outcome.reply sent)
      ] refl (sym (replied id h) ∙ is))
    where
      itself : (reply : List ℕ) → WasSent w (Client c) k → IsAnswered (row_of (answered w.clients (Client c) k reply) c) k
      itself reply sent =
          let mine = (awaited-parts (client_of w c) k sent).0 in
          let parts = both_parts (nat_lt _ k) (nat_le k (client_of w c).last) mine in
          subst (λ row. IsAnswered row k)
          (sym (row_of-insert w.clients c (with_reply (client_of w c) k reply) c ∙ ap (λ b. cond b (with_reply (client_of w c) k reply) (client_of w c)) (tied_itself-nat c)))
          (answered-here (client_of w c) k reply mine (leb-true k (client_of w c).last parts.1))

-- ---- a history

pub never-again : (w : World) (history : List Event) (c k : ℕ) → IsFit w → AllByRecursion IsEvent history → can_all w history ≡ true → IsAnswered (client_of w c) k → last_reply c k w history ≡ None
never-again w [] c k fit typed able is = refl
never-again w (e ∷ es) c k fit typed able is =
    let parts = both_parts (can w e) (can_all (after w e) es) able in
    let later = never-again (after w e) es c k (fit-after w e fit typed.0 parts.0) typed.1 parts.1 (answered-after w c k e fit parts.0 is) in
    let here = not-again w c k e fit parts.0 is in
    λ i. or_else (later i) (here i)

stays-answered : (w : World) (history : List Event) (c k : ℕ) → IsFit w → AllByRecursion IsEvent history → can_all w history ≡ true → IsAnswered (client_of w c) k → IsAnswered (client_of (world w history) c) k
stays-answered w [] c k fit typed able is = is
stays-answered w (e ∷ es) c k fit typed able is =
    let parts = both_parts (can w e) (can_all (after w e) es) able in
    stays-answered (after w e) es c k (fit-after w e fit typed.0 parts.0) typed.1 parts.1 (answered-after w c k e fit parts.0 is)

pub last-answered : (w : World) (history : List Event) (c k : ℕ) (words : List ℕ) → IsFit w → AllByRecursion IsEvent history → can_all w history ≡ true → last_reply c k w history ≡ Some words →
    IsAnswered (client_of (world w history) c) k
last-answered w [] c k words fit typed able is = absurd (let never : ⊥ = cc in never)
last-answered w (e ∷ es) c k words fit typed able is =
    let parts = both_parts (can w e) (can_all (after w e) es) able in
    let fit_next = fit-after w e fit typed.0 parts.0 in
    elim (last_reply c k (after w e) es) as (λ o. last_reply c k (after w e) es ≡ o → or_else o (reply_by c k w e) ≡ Some words → IsAnswered (client_of (world (after w e) es) c) k) [
      | None ↦ λ _ here. stays-answered (after w e) es c k fit_next typed.1 parts.1 (now-answered w c k e words fit parts.0 here)
      | Some others ↦ λ later _. last-answered (after w e) es c k others fit_next typed.1 parts.1 later
    ] refl is
