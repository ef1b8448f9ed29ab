-- What passes hold stays true while others go on.
use Rattle.std.proofs.Common.{◌≡◌, ℕ, ◌-◌, ◌≤◌, true, false, cond, List, [], ◌∷◌, ◌++◌, length, take, drop, refl, sym, ap, subst, ◌∙◌, arith, length-append, if◌then◌else◌, Option, Some, None}
use Rattle.std.specs.Prelude.{◌==◌}
use Rattle.std.specs.Ordering.{eq_by_cmp, nat_cmp}
use Rattle.std.specs.Cmp.{nat_eq_equiv}
use Rattle.std.proofs.lemmas.List.{append-nil, take-append-drop, take-append-le, take-take, drop-append-le}
use Rattle.std.proofs.lemmas.Map.Views.{tells_apart}
use Rattle.std.proofs.lemmas.Map.Lookups.{exact_unsigned}
use Rattle.charmlet_model.specs.declared.names.Origin.{Origin}
use Rattle.charmlet_model.specs.declared.names.Origin.TheVariants.{Client, Element}
use Rattle.charmlet_model.specs.declared.message.Message.{Message}
use Rattle.charmlet_model.specs.declared.event.Event.{Event}
use Rattle.charmlet_model.specs.declared.event.Event.TheVariants.{Accept, Deliver}
use Rattle.charmlet_model.specs.declared.reaction.Reaction.{Reaction}
use Rattle.charmlet_model.specs.declared.client.ClientRow.{ClientRow}
use Rattle.charmlet_model.specs.declared.told.Told.{Told}
use Rattle.charmlet_model.specs.Row.{with_reply, with_request}
use Rattle.charmlet_model.specs.World.{World, world, after, performed, delivered, reaction_of, can_all, message_among, answered, row_of, client_of}
use Rattle.charmlet_model.specs.Told.{Holds}
use Rattle.charmlet_model.specs.Core.{Core, present}
use Rattle.charmlet_model.specs.Sound.{IsSound}
use Rattle.charmlet_model.proofs.Histories.{row_of-insert, world-append}
use Rattle.charmlet_model.proofs.Lasts.{holds_later}
use Rattle.charmlet_requests.specs.Pass.{known}
use Rattle.charmlet_requests.proofs.Truth.{can_all-first}
use Rattle.charmlet_leases.specs.Passes.Passes.{HeldPass, LentPasses, AreTrue, IsCurrent, AreCurrent, accepts_in}

-- The later core goes on after the same opening world, with no fewer durable events, and without
-- accepts of this client.
pub record GoesOnWithout (client : ℕ) (old new : Core) : Type 0 where
  pub opening : new.opening ≡ old.opening
  pub before : new.before ≡ old.before
  pub more : List Event
  pub grows : new.history ≡ old.history ++ more
  pub no_fewer : old.durable ≤ new.durable
  pub without : accepts_in client more ≡ []

-- ---- a client's last number, where it makes no request

pub untied : (a b : ℕ) → (b == a) ≡ false → eq_by_cmp nat_cmp a b ≡ false
untied a b apart = elim (eq_by_cmp nat_cmp a b) as (λ t. eq_by_cmp nat_cmp a b ≡ t → t ≡ false) [
  | true ↦ λ same.
      let one : a ≡ b = tells_apart exact_unsigned a b same in
      let tied : (b == a) ≡ true = subst (λ x. (b == x) ≡ true) (sym one) (nat_eq_equiv.refl b) in
      absurd (let no : ⊥ = cc in no)
  | false ↦ λ _. refl
] refl

last-answered : (clients : List (ℕ × ClientRow)) (origin : Origin) (number : ℕ) (reply : List ℕ) (c : ℕ) → (row_of (answered clients origin number reply) c).last ≡ (row_of clients c).last
last-answered clients (Element x) number reply c = refl
last-answered clients (Client k) number reply c =
    let row : ClientRow = with_reply (row_of clients k) number reply in
    ap (λ (r : ClientRow). r.last) (row_of-insert clients k row c)
    ∙ elim (eq_by_cmp nat_cmp c k) as (λ b. eq_by_cmp nat_cmp c k ≡ b → (cond b row (row_of clients c)).last ≡ (row_of clients c).last) [
      | true ↦ λ same. ap (λ j. (row_of clients j).last) (sym (tells_apart exact_unsigned c k same))
      | false ↦ λ _. refl
    ] refl

last-performed : (w : World) (m : Message) (o : Option Reaction) (c : ℕ) → (client_of (performed w m o) c).last ≡ (client_of w c).last
last-performed w m None c = refl
last-performed w m (Some o) c = last-answered w.clients m.id.origin m.id.number o.reply c

last-delivered : (w : World) (m : Option Message) (c : ℕ) → (client_of (delivered w m) c).last ≡ (client_of w c).last
last-delivered w None c = refl
last-delivered w (Some m) c = last-performed w m (reaction_of w m) c

pub last-without : (w : World) (events : List Event) (client : ℕ) → accepts_in client events ≡ [] → (client_of (world w events) client).last ≡ (client_of w client).last
last-without w [] client none = refl
last-without w (Deliver id ∷ es) client none =
    last-without (after w (Deliver id)) es client none ∙ last-delivered w (message_among id w.pending) client
last-without w (Accept asking number to entry words ∷ es) client none =
    let e = Accept asking number to entry words in
    let row : ClientRow = with_request (client_of w asking) number in
    elim (asking == client) as (λ b. (asking == client) ≡ b → (if b then e ∷ accepts_in client es else accepts_in client es) ≡ [] → (client_of (world (after w e) es) client).last ≡ (client_of w client).last) [
      | true ↦ λ same some. absurd (let no : ⊥ = cc in no)
      | false ↦ λ apart none'.
          let here : client_of (after w e) client ≡ client_of w client = row_of-insert w.clients asking row client ∙ ap (λ b. cond b row (client_of w client)) (untied client asking apart) in
          last-without (after w e) es client none' ∙ ap (λ (r : ClientRow). r.last) here
    ] refl none

pub accepts_in-append : (client : ℕ) (xs ys : List Event) → accepts_in client (xs ++ ys) ≡ accepts_in client xs ++ accepts_in client ys
accepts_in-append client [] ys = refl
accepts_in-append client (Deliver id ∷ xs) ys = accepts_in-append client xs ys
accepts_in-append client (Accept asking number to entry words ∷ xs) ys =
    let e = Accept asking number to entry words in
    let rest = accepts_in-append client xs ys in
    elim (asking == client) as (λ b. (if b then e ∷ accepts_in client (xs ++ ys) else accepts_in client (xs ++ ys)) ≡ (if b then e ∷ accepts_in client xs else accepts_in client xs) ++ accepts_in client ys) [
      | true ↦ ap (λ l. e ∷ l) rest
      | false ↦ rest
    ]

-- a longer front of a longer list begins with the shorter one
front : {A : Type 0} (i j : ℕ) (xs more : List A) → i ≤ length xs → i ≤ j → (rest : List A) × (take j (xs ++ more) ≡ take i xs ++ rest)
front i j xs more within less =
    let ys = take j (xs ++ more) in
    (drop i ys, sym (take-append-drop i ys) ∙ ap (λ zs. zs ++ drop i ys) (take-take i j (xs ++ more) less ∙ take-append-le i xs more within))

module _ (old new : Core) (client : ℕ) (on : GoesOnWithout client old new) (sound : IsSound old) (sound' : IsSound new) where
  abbrev sure : Core → List Event
  sure core = take core.durable core.history

  -- what holds of the durable events holds of the later ones
  holds-later : (number : ℕ) (t : Told) → Holds old.opening (sure old) client number t → Holds new.opening (sure new) client number t
  holds-later number t h =
      let more = front old.durable new.durable old.history on.more sound.durable on.no_fewer in
      let goes_on : sure new ≡ sure old ++ more.0 = ap (λ es. take new.durable es) on.grows ∙ more.1 in
      let whole = sym (take-append-drop new.durable new.history) in
      let legal = can_all-first new.opening (sure new) (drop new.durable new.history) (subst (λ es. can_all new.opening es ≡ true) whole sound'.legal.each_can) in
      let here = subst (λ w. Holds w (sure old) client number t) (sym on.opening) h in
      subst (λ es. Holds new.opening es client number t) (sym goes_on)
      (holds_later new.opening (sure old) more.0 client number t (subst (λ es. can_all new.opening es ≡ true) goes_on legal) here)

  all-later : (answers : List (ℕ × Told)) → AreTrue old client answers → AreTrue new client answers
  all-later [] all = tt
  all-later (answer ∷ answers) all = (holds-later answer.0 answer.1 all.0, all-later answers all.1)

  last-later : (client_of (present new) client).last ≡ (client_of (present old) client).last
  last-later =
      ap (λ (p : World × List Event). (client_of (world p.0 p.1) client).last) (λ i. (on.opening i, on.grows i))
      ∙ ap (λ w. (client_of w client).last) (world-append old.opening old.history on.more)
      ∙ last-without (present old) on.more client on.without

  accepts-later : (n : ℕ) → n ≤ length old.history → accepts_in client (drop n new.history) ≡ accepts_in client (drop n old.history)
  accepts-later n within =
      ap (λ es. accepts_in client (drop n es)) on.grows
      ∙ ap (accepts_in client) (drop-append-le n old.history on.more within)
      ∙ accepts_in-append client (drop n old.history) on.more
      ∙ ap (λ l. accepts_in client (drop n old.history) ++ l) on.without
      ∙ append-nil (accepts_in client (drop n old.history))

  -- all of them are as before
  pub history-later : accepts_in client new.history ≡ accepts_in client old.history
  history-later = accepts-later 0 (omega arith)

  longer : length old.history ≤ length new.history
  longer = let long = ap length on.grows ∙ length-append old.history on.more in omega arith

pub current-later : (old new : Core) (h : HeldPass) → GoesOnWithout h.pass.client old new → IsSound old → IsSound new → IsCurrent h old → IsCurrent h new
current-later old new h on sound sound' is =
    let long = longer old new h.pass.client on sound sound' in
    let before = on.before in
    let since = is.since in
    let within = is.within in
    let flushed = is.flushed in
    let no_fewer = on.no_fewer in
    record {
      heard = all-later old new h.pass.client on sound sound' h.heard is.heard;
      rising = is.rising;
      is_known = is.is_known;
      told = λ number. holds-later old new h.pass.client on sound sound' number (known h.pass number) (is.told number);
      lent_at = is.lent_at ∙ ap (λ w. (client_of w h.pass.client).last) (sym on.opening);
      up_to_date = last-later old new h.pass.client on sound sound' ∙ is.up_to_date;
      since = omega arith;
      within = omega arith;
      accepts =
          is.accepts
          ∙ sym (accepts-later old new h.pass.client on sound sound' (h.since - old.before) (omega arith))
          ∙ ap (λ b. accepts_in h.pass.client (drop (h.since - b) new.history)) (sym before);
      all = is.all ∙ sym (history-later old new h.pass.client on sound sound');
      flushed = omega arith;
    }

pub are_current-later : (passes : LentPasses) (old new : Core) → ((client : ℕ) → GoesOnWithout client old new) → IsSound old → IsSound new → AreCurrent passes old → AreCurrent passes new
are_current-later passes old new on sound sound' are = record {
  each = λ place h at. current-later old new h (on h.pass.client) sound sound' (are.each place h at);
  out = are.out;
  apart = are.apart;
  others = λ client none. history-later old new client (on client) sound sound' ∙ are.others client none;
}
