-- No id is used twice.
use Rattle.std.proofs.Common.{◌≡◌, ℕ, ◌+◌, ◌<◌, ◌≤◌, true, false, cond, ◌&&◌, List, [], ◌∷◌, ◌++◌, length, refl, ap, ◌∙◌, arith}
use Rattle.std.specs.Prelude.{Option, Some, None, ◌==◌}
use Rattle.std.specs.List.{AllByRecursion}
use Rattle.std.proofs.lemmas.Map.Views.{exact_unsigned_eq}
use Rattle.charmlet_model.specs.declared.names.Elem.{Elem}
use Rattle.charmlet_model.specs.declared.names.Origin.{Origin}
use Rattle.charmlet_model.specs.declared.names.Origin.TheVariants.{Client, Element}
use Rattle.charmlet_model.specs.declared.names.MsgId.{MsgId}
use Rattle.charmlet_model.specs.declared.message.Message.{Message}
use Rattle.charmlet_model.specs.declared.message.Outgoing.{Outgoing}
use Rattle.charmlet_model.specs.declared.state.Record.{Record}
use Rattle.charmlet_model.specs.declared.event.Event.{Event}
use Rattle.charmlet_model.specs.declared.event.Event.TheVariants.{Accept, Deliver}
use Rattle.charmlet_model.specs.declared.reaction.Reaction.{Reaction}
use Rattle.charmlet_model.specs.declared.client.ClientRow.{ClientRow}
use Rattle.charmlet_model.specs.Names.{same_origin, same_id}
use Rattle.charmlet_model.specs.Row.{with_request}
use Rattle.charmlet_model.specs.World.{World, after, performed, delivered, reaction_of, can, can_all, message_among, numbered, record_of, client_of}
use Rattle.charmlet_model.specs.Fit.{AreApart, AreDistinct, WasSent, IsMessage, IsFit, seq, sent_at, sent_by, all_seq}
use Rattle.charmlet_model.proofs.Maps.{both_parts, same_from_test}
use Rattle.charmlet_model.proofs.Histories.{row_of-insert}
use Rattle.charmlet_model.proofs.Lasts.{last_grows}
use Rattle.charmlet_model.proofs.Reactions.{AllByRecursion-append}
use Rattle.charmlet_model.proofs.Windows.{inside-parts, awaited-parts}
use Rattle.charmlet_model.proofs.Fits.{distinct-append, numbered-apart, numbered-distinct, apart-numbers, sent_grows, record_here, AllByRecursion-map, tied_itself-nat}

-- the origin has come to this number
abbrev pub Used : World → Origin → ℕ → Type 0
Used w (Element x) number = number ≤ (record_of w x).sent
Used w (Client c) number = number ≤ (client_of w c).last

sent-performed : (w : World) (m : Message) (o : Option Reaction) (x : Elem) → (record_of w x).sent ≤ (record_of (performed w m o) x).sent
sent-performed w m None x = omega arith
sent-performed w m (Some o) x = sent_grows w m o x

sent-delivered : (w : World) (m : Option Message) (x : Elem) → (record_of w x).sent ≤ (record_of (delivered w m) x).sent
sent-delivered w None x = omega arith
sent-delivered w (Some m) x = sent-performed w m (reaction_of w m) x

sent-after : (w : World) (e : Event) (x : Elem) → (record_of w x).sent ≤ (record_of (after w e) x).sent
sent-after w (Deliver id) x = sent-delivered w (message_among id w.pending) x
sent-after w (Accept client number to entry words) x = omega arith

pub used_later : (w : World) (e : Event) (origin : Origin) (number : ℕ) → can w e ≡ true → Used w origin number → Used (after w e) origin number
used_later w e (Element x) number h used = let grows = sent-after w e x in omega arith
used_later w e (Client c) number h used = let grows = last_grows w e c h in omega arith

pub next_number : (w : World) (client number : ℕ) (to : Elem) (entry : ℕ) (words : List ℕ) → can w (Accept client number to entry words) ≡ true → number ≡ (client_of w client).last + 1
next_number w client number to entry words h = exact_unsigned_eq _ _ (both_parts _ _ (both_parts _ _ (both_parts _ _ (both_parts _ _ (both_parts _ _ h).0).0).0).0).0

-- ---- what an event brings is new

pub new_to-client : (w : World) (origin : Origin) (n client number : ℕ) → Used w origin n → (client_of w client).last < number → (same_origin origin (Client client) && (n == number)) ≡ false
new_to-client w (Element x) n client number used above = refl
new_to-client w (Client c) n client number used above =
    elim (c == client) as (λ b. (c == client) ≡ b → (b && (n == number)) ≡ false) [
      | true ↦ λ same. let here = ap (λ k. (client_of w k).last) (exact_unsigned_eq c client same) in apart-numbers n number (omega arith)
      | false ↦ λ _. refl
    ] refl

below_sent : (w : World) (origin : Origin) (n : ℕ) (from : Elem) → Used w origin n → same_origin origin (Element from) ≡ true → n ≤ (record_of w from).sent
below_sent w (Client c) n from used same = absurd (let no : ⊥ = cc in no)
below_sent w (Element x) n from used same = let here = ap (λ y. (record_of w y).sent) (same_from_test x from same) in omega arith

apart-sent_by : (w : World) (id : MsgId) (m : Message) (o : Option Reaction) → Used w id.origin id.number → AreApart id (sent_by w m o)
apart-sent_by w id m None used = tt
apart-sent_by w id m (Some o) used = numbered-apart id m.to o.sends (record_of w m.to).sent (below_sent w id.origin id.number m.to used)

apart-sent_at : (w : World) (id : MsgId) (m : Option Message) → Used w id.origin id.number → AreApart id (sent_at w m)
apart-sent_at w id None used = tt
apart-sent_at w id (Some m) used = apart-sent_by w id m (reaction_of w m) used

apart-seq : (w : World) (e : Event) (id : MsgId) → can w e ≡ true → Used w id.origin id.number → AreApart id (seq w e)
apart-seq w (Deliver of) id h used = apart-sent_at w id (message_among of w.pending) used
apart-seq w (Accept client number to entry words) id h used =
    let next = next_number w client number to entry words h in
    (new_to-client w id.origin id.number client number used (omega arith), tt)

-- ---- and used from then on

used-numbered : (v : World) (from : Elem) (ss : List Outgoing) (sent : ℕ) → sent + length ss ≤ (record_of v from).sent → AllByRecursion (λ n. Used v n.id.origin n.id.number) (numbered from sent ss)
used-numbered v from [] sent room = tt
used-numbered v from (s ∷ ss) sent room = (omega arith, used-numbered v from ss (sent + 1) (omega arith))

used-sent_by : (w : World) (m : Message) (o : Option Reaction) → AllByRecursion (λ n. Used (performed w m o) n.id.origin n.id.number) (sent_by w m o)
used-sent_by w m None = tt
used-sent_by w m (Some o) = let here = ap (λ (r : Record). r.sent) (record_here w m o) in used-numbered (performed w m (Some o)) m.to o.sends (record_of w m.to).sent (omega arith)

used-sent_at : (w : World) (m : Option Message) → AllByRecursion (λ n. Used (delivered w m) n.id.origin n.id.number) (sent_at w m)
used-sent_at w None = tt
used-sent_at w (Some m) = used-sent_by w m (reaction_of w m)

pub used-seq : (w : World) (e : Event) → AllByRecursion (λ n. Used (after w e) n.id.origin n.id.number) (seq w e)
used-seq w (Deliver id) = used-sent_at w (message_among id w.pending)
used-seq w (Accept client number to entry words) =
    let row : ClientRow = with_request (client_of w client) number in
    let here = ap (λ (r : ClientRow). r.last) (row_of-insert w.clients client row client ∙ ap (λ b. cond b row (client_of w client)) (tied_itself-nat client)) in
    (omega arith, tt)

distinct-sent_by : (w : World) (m : Message) (o : Option Reaction) → AreDistinct (sent_by w m o)
distinct-sent_by w m None = tt
distinct-sent_by w m (Some o) = numbered-distinct m.to o.sends (record_of w m.to).sent

distinct-sent_at : (w : World) (m : Option Message) → AreDistinct (sent_at w m)
distinct-sent_at w None = tt
distinct-sent_at w (Some m) = distinct-sent_by w m (reaction_of w m)

distinct-seq : (w : World) (e : Event) → AreDistinct (seq w e)
distinct-seq w (Deliver id) = distinct-sent_at w (message_among id w.pending)
distinct-seq w (Accept client number to entry words) = (tt, tt)

-- ---- over a history

apart-all_seq : (w : World) (history : List Event) (id : MsgId) → can_all w history ≡ true → Used w id.origin id.number → AreApart id (all_seq w history)
apart-all_seq w [] id h used = tt
apart-all_seq w (e ∷ es) id h used =
    let parts = both_parts (can w e) (can_all (after w e) es) h in
    AllByRecursion-append (λ n. same_id id n.id ≡ false) (seq w e) (all_seq (after w e) es) (apart-seq w e id parts.0 used)
    (apart-all_seq (after w e) es id parts.1 (used_later w e id.origin id.number parts.0 used))

distinct-all_seq : (w : World) (history : List Event) → can_all w history ≡ true → AreDistinct (all_seq w history)
distinct-all_seq w [] h = tt
distinct-all_seq w (e ∷ es) h =
    let parts = both_parts (can w e) (can_all (after w e) es) h in
    distinct-append (seq w e) (all_seq (after w e) es) (distinct-seq w e) (distinct-all_seq (after w e) es parts.1)
    (AllByRecursion-map (λ n. Used (after w e) n.id.origin n.id.number) (λ n. AreApart n.id (all_seq (after w e) es)) (seq w e)
    (λ n used. apart-all_seq (after w e) es n.id parts.1 used) (used-seq w e))

pub used-sent : (w : World) (origin : Origin) (number : ℕ) → WasSent w origin number → Used w origin number
used-sent w (Element x) number sent = sent.1
used-sent w (Client c) number sent = (inside-parts (client_of w c) number (awaited-parts (client_of w c) number sent).0).1

pub ids_once : (w : World) (history : List Event) → IsFit w → can_all w history ≡ true → AreDistinct (w.pending ++ all_seq w history)
ids_once w history fit h =
    distinct-append w.pending (all_seq w history) fit.distinct (distinct-all_seq w history h)
    (AllByRecursion-map (IsMessage w) (λ n. AreApart n.id (all_seq w history)) w.pending
    (λ n message. apart-all_seq w history n.id h (used-sent w n.id.origin n.id.number message.sent)) fit.messages)
