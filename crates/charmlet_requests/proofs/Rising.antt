-- What is told rises with the history.
use Rattle.std.proofs.Common.{◌≡◌, ℕ, ◌+◌, ◌-◌, ◌≤◌, true, false, cond, List, [], ◌∷◌, ◌++◌, take, drop, refl, sym, ap, subst, ◌∙◌, arith, suc, if◌then◌else◌, Option, Some, None}
use Rattle.std.specs.Prelude.{◌==◌}
use Rattle.std.specs.List.{AllByRecursion}
use Rattle.std.specs.Ordering.{eq_by_cmp, nat_cmp}
use Rattle.std.specs.Cmp.{nat_eq_equiv}
use Rattle.std.proofs.lemmas.Map.Views.{exact_unsigned_eq, tells_apart}
use Rattle.std.proofs.lemmas.Map.Lookups.{exact_unsigned}
use Rattle.std.proofs.lemmas.List.{take-append-drop}
use Rattle.charmlet_model.specs.declared.names.Origin.{Origin}
use Rattle.charmlet_model.specs.declared.names.Origin.TheVariants.{Client, Element}
use Rattle.charmlet_model.specs.declared.names.MsgId.{MsgId}
use Rattle.charmlet_model.specs.declared.message.Message.{Message}
use Rattle.charmlet_model.specs.declared.event.Event.{Event}
use Rattle.charmlet_model.specs.declared.event.Event.TheVariants.{Accept, Deliver}
use Rattle.charmlet_model.specs.declared.reaction.Reaction.{Reaction}
use Rattle.charmlet_model.specs.declared.client.ClientRow.{ClientRow}
use Rattle.charmlet_model.specs.declared.told.Told.{Told}
use Rattle.charmlet_model.specs.declared.told.Told.TheVariants.{Unknown, Accepted, Replied, Past}
use Rattle.charmlet_model.specs.Row.{with_reply, with_request}
use Rattle.charmlet_model.specs.World.{World, world, after, performed, delivered, reaction_of, can, can_all, message_among, answered, row_of, client_of, IsEvent}
use Rattle.charmlet_model.specs.Fit.{IsFit, IsMessage, WasSent}
use Rattle.charmlet_model.specs.Told.{Holds, told, told_of_item}
use Rattle.charmlet_model.proofs.Maps.{both_parts}
use Rattle.charmlet_model.proofs.Histories.{row_of-insert}
use Rattle.charmlet_model.proofs.Fits.{found, fit-after, tied_itself-nat}
use Rattle.charmlet_model.proofs.Lasts.{last_grows}
use Rattle.charmlet_requests.specs.Knowing.{IsNoLess, IsWindowed}
use Rattle.charmlet_requests.specs.Pass.{numbers_after}
use Rattle.charmlet_requests.specs.Rising.{ToldRises, TruthIsTold, AcceptsAreNumbered, accepted_by}
use Rattle.charmlet_requests.proofs.Covering.{Covers, covers-itself, covers-then, covers-request, covers-reply, covers-told, replied-parts, told-inside, told-below, told-known}
use Rattle.charmlet_model.proofs.Windows.{inside-parts}

-- ---- an event

covers-answered : (w : World) (origin : Origin) (number : ℕ) (reply : List ℕ) (c : ℕ) → WasSent w origin number →
    Covers (client_of w c) (row_of (answered w.clients origin number reply) c)
covers-answered w (Element x) number reply c sent = covers-itself (client_of w c)
covers-answered w (Client k) number reply c sent =
    let row : ClientRow = with_reply (client_of w k) number reply in
    subst (Covers (client_of w c)) (sym (row_of-insert w.clients k row c))
    (elim (eq_by_cmp nat_cmp c k) as (λ b. eq_by_cmp nat_cmp c k ≡ b → Covers (client_of w c) (cond b row (client_of w c))) [
      | true ↦ λ same. subst (λ j. Covers (client_of w j) row) (sym (tells_apart exact_unsigned c k same)) (covers-reply (client_of w k) number reply sent)
      | false ↦ λ _. covers-itself (client_of w c)
    ] refl)

covers-performed : (w : World) (m : Message) (o : Option Reaction) (c : ℕ) → WasSent w m.id.origin m.id.number → Covers (client_of w c) (client_of (performed w m o) c)
covers-performed w m None c sent = covers-itself (client_of w c)
covers-performed w m (Some o) c sent = covers-answered w m.id.origin m.id.number o.reply c sent

covers-delivered : (w : World) (id : MsgId) (c : ℕ) → IsFit w → Covers (client_of w c) (client_of (delivered w (message_among id w.pending)) c)
covers-delivered w id c fit =
    elim (message_among id w.pending) as (λ o. message_among id w.pending ≡ o → Covers (client_of w c) (client_of (delivered w o) c)) [
      | None ↦ λ _. covers-itself (client_of w c)
      | Some m ↦ λ is. covers-performed w m (reaction_of w m) c (found (IsMessage w) id w.pending m is fit.messages).sent
    ] refl

windowed : (w : World) (c : ℕ) → IsFit w → IsWindowed (client_of w c)
windowed w c fit = record { few = (fit.clients c).few; numbered = (fit.clients c).numbered }

-- no event has a client told less
covers-after : (w : World) (e : Event) (c : ℕ) → IsFit w → can w e ≡ true → Covers (client_of w c) (client_of (after w e) c)
covers-after w (Deliver id) c fit h = covers-delivered w id c fit
covers-after w (Accept client number to entry words) c fit h =
    let old = client_of w client in
    let row : ClientRow = with_request old number in
    let next = both_parts _ _ (both_parts _ _ (both_parts _ _ (both_parts _ _ h).0).0).0 in
    let is : number ≡ old.last + 1 = exact_unsigned_eq _ _ (both_parts _ _ next.0).0 in
    subst (Covers (client_of w c)) (sym (row_of-insert w.clients client row c))
    (elim (eq_by_cmp nat_cmp c client) as (λ b. eq_by_cmp nat_cmp c client ≡ b → Covers (client_of w c) (cond b row (client_of w c))) [
      | true ↦ λ same. subst (λ j. Covers (client_of w j) row) (sym (tells_apart exact_unsigned c client same)) (covers-request old number is (windowed w client fit))
      | false ↦ λ _. covers-itself (client_of w c)
    ] refl)

-- ---- histories

covers-world : (w : World) (history : List Event) (c : ℕ) → IsFit w → AllByRecursion IsEvent history → can_all w history ≡ true → Covers (client_of w c) (client_of (world w history) c)
covers-world w [] c fit events h = covers-itself (client_of w c)
covers-world w (e ∷ es) c fit events h =
    let parts = both_parts (can w e) (can_all (after w e) es) h in
    covers-then (client_of w c) (client_of (after w e) c) (client_of (world (after w e) es) c)
    (covers-after w e c fit parts.0) (covers-world (after w e) es c (fit-after w e fit events.0 parts.0) events.1 parts.1)

pub covers-more : (w : World) (history more : List Event) (c : ℕ) → IsFit w → AllByRecursion IsEvent (history ++ more) → can_all w (history ++ more) ≡ true →
    Covers (client_of (world w history) c) (client_of (world w (history ++ more)) c)
covers-more w [] more c fit events h = covers-world w more c fit events h
covers-more w (e ∷ es) more c fit events h =
    let parts = both_parts (can w e) (can_all (after w e) (es ++ more)) h in
    covers-more (after w e) es more c (fit-after w e fit events.0 parts.0) events.1 parts.1

pub told_rises : ToldRises
told_rises w before history more client number fit legal =
    covers-told (client_of (world w history) client) (client_of (world w (history ++ more)) client) number
    (covers-more w history more client fit legal.events legal.each_can)

-- what holds of a history is told after it
pub holds-told : (w : World) (history : List Event) (client number : ℕ) (earlier : Told) → IsFit w → AllByRecursion IsEvent history → can_all w history ≡ true →
    Holds w history client number earlier → IsNoLess earlier (told (world w history) client number)
holds-told w history client number Unknown fit events h holds = tt
holds-told w history client number Accepted fit events h holds = told-known (client_of (world w history) client) number holds
holds-told w history client number (Replied reply) fit events h holds =
    let row = client_of (world w (take holds.0 history)) client in
    let parts = take-append-drop holds.0 history in
    let covers : Covers row (client_of (world w history) client) =
    subst (λ es. Covers row (client_of (world w es) client)) parts
    (covers-more w (take holds.0 history) (drop holds.0 history) client fit (subst (AllByRecursion IsEvent) (sym parts) events) (ap (can_all w) parts ∙ h)) in
    let inside = inside-parts row number (replied-parts row number reply holds.2).0 in
    subst (λ t. IsNoLess t (told (world w history) client number)) (told-inside row number inside.0 inside.1 ∙ ap told_of_item holds.2)
    (covers-told row (client_of (world w history) client) number covers)
holds-told w history client number Past fit events h holds = told-below (client_of (world w history) client) number holds

pub truth_is_told : TruthIsTold
truth_is_told w before history client number earlier fit legal holds = holds-told w history client number earlier fit legal.events legal.each_can holds

-- ---- the numbers of accepts

untied : (a b : ℕ) → (b == a) ≡ false → eq_by_cmp nat_cmp a b ≡ false
untied a b apart = elim (eq_by_cmp nat_cmp a b) as (λ t. eq_by_cmp nat_cmp a b ≡ t → t ≡ false) [
  | true ↦ λ same.
      let one : a ≡ b = tells_apart exact_unsigned a b same in
      let tied : (b == a) ≡ true = subst (λ x. (b == x) ≡ true) (sym one) (nat_eq_equiv.refl b) in
      absurd (let no : ⊥ = cc in no)
  | false ↦ λ _. refl
] refl

last-answered : (clients : List (ℕ × ClientRow)) (origin : Origin) (number : ℕ) (reply : List ℕ) (c : ℕ) → (row_of (answered clients origin number reply) c).last ≡ (row_of clients c).last
last-answered clients (Element x) number reply c = refl
last-answered clients (Client k) number reply c =
    let row : ClientRow = with_reply (row_of clients k) number reply in
    ap (λ (r : ClientRow). r.last) (row_of-insert clients k row c)
    ∙ elim (eq_by_cmp nat_cmp c k) as (λ b. eq_by_cmp nat_cmp c k ≡ b → (cond b row (row_of clients c)).last ≡ (row_of clients c).last) [
      | true ↦ λ same. ap (λ j. (row_of clients j).last) (sym (tells_apart exact_unsigned c k same))
      | false ↦ λ _. refl
    ] refl

last-performed : (w : World) (m : Message) (o : Option Reaction) (c : ℕ) → (client_of (performed w m o) c).last ≡ (client_of w c).last
last-performed w m None c = refl
last-performed w m (Some o) c = last-answered w.clients m.id.origin m.id.number o.reply c

last-delivered : (w : World) (m : Option Message) (c : ℕ) → (client_of (delivered w m) c).last ≡ (client_of w c).last
last-delivered w None c = refl
last-delivered w (Some m) c = last-performed w m (reaction_of w m) c

lasts-grow : (w : World) (history : List Event) (c : ℕ) → can_all w history ≡ true → (client_of w c).last ≤ (client_of (world w history) c).last
lasts-grow w [] c h = omega arith
lasts-grow w (e ∷ es) c h =
    let parts = both_parts (can w e) (can_all (after w e) es) h in
    omega (arith, last_grows w e c parts.0, lasts-grow (after w e) es c parts.1)

abbrev since : World → World → ℕ → List ℕ
since v w c = numbers_after (client_of v c).last ((client_of w c).last - (client_of v c).last)

numbered : (w : World) (history : List Event) (client : ℕ) → can_all w history ≡ true → accepted_by client history ≡ since w (world w history) client
numbered w [] client h = ap (numbers_after (client_of w client).last) (let none : 0 ≡ (client_of w client).last - (client_of w client).last = omega arith in none)
numbered w (Deliver id ∷ es) client h =
    let parts = both_parts (can w (Deliver id)) (can_all (after w (Deliver id)) es) h in
    let end = (client_of (world (after w (Deliver id)) es) client).last in
    numbered (after w (Deliver id)) es client parts.1 ∙ ap (λ n. numbers_after n (end - n)) (last-delivered w (message_among id w.pending) client)
numbered w (Accept asking number to entry words ∷ es) client h =
    let e = Accept asking number to entry words in
    let parts = both_parts (can w e) (can_all (after w e) es) h in
    let old = client_of w asking in
    let row : ClientRow = with_request old number in
    let next = both_parts _ _ (both_parts _ _ (both_parts _ _ (both_parts _ _ parts.0).0).0).0 in
    let is : number ≡ old.last + 1 = exact_unsigned_eq _ _ (both_parts _ _ next.0).0 in
    let put = row_of-insert w.clients asking row client in
    let rest = numbered (after w e) es client parts.1 in
    let end = (client_of (world (after w e) es) client).last in
    let grows = lasts-grow (after w e) es client parts.1 in
    elim (asking == client) as (λ b. (asking == client) ≡ b → (if b then number ∷ accepted_by client es else accepted_by client es) ≡ numbers_after (client_of w client).last (end - (client_of w client).last)) [
      | true ↦ λ same.
          let one : asking ≡ client = exact_unsigned_eq asking client same in
          let tied : eq_by_cmp nat_cmp client asking ≡ true = subst (λ k. eq_by_cmp nat_cmp client k ≡ true) (sym one) (tied_itself-nat client) in
          let here : client_of (after w e) client ≡ row = put ∙ ap (λ b. cond b row (client_of w client)) tied in
          let at : (client_of (after w e) client).last ≡ number = ap (λ (r : ClientRow). r.last) here in
          let mine : number ≡ (client_of w client).last + 1 = is ∙ ap (λ k. (client_of w k).last + 1) one in
          let more : end - (client_of w client).last ≡ suc (end - number) = omega arith in
          ap (λ ns. number ∷ ns) (rest ∙ ap (λ n. numbers_after n (end - n)) at)
          ∙ ap (λ n. n ∷ numbers_after n (end - number)) mine
          ∙ sym (ap (numbers_after (client_of w client).last) more)
      | false ↦ λ apart.
          let other : eq_by_cmp nat_cmp client asking ≡ false = untied client asking apart in
          let here : client_of (after w e) client ≡ client_of w client = put ∙ ap (λ b. cond b row (client_of w client)) other in
          rest ∙ ap (λ (r : ClientRow). numbers_after r.last (end - r.last)) here
    ] refl

pub accepts_are_numbered : AcceptsAreNumbered
accepts_are_numbered w before history client legal = numbered w history client legal.each_can
