-- The world that is seen goes on with its events.
use Rattle.std.proofs.Common.{◌≡◌, ℕ, ◌+◌, ◌<◌, Bool, true, false, cond, if◌then◌else◌, List, [], ◌∷◌, ◌++◌, length, refl, sym, ap, subst, ◌∙◌, arith, slice_get, suc}
use Rattle.std.specs.Prelude.{Option, Some, None, IfSome, is_some, is_none, unwrap_or, option_and_then, option_map, map}
use Rattle.std.specs.declared.cmp.Ordering.{Ordering}
use Rattle.std.specs.declared.cmp.Ordering.TheVariants.{Less, Equal, Greater}
use Rattle.std.specs.Ordering.{eq_by_cmp, match_ordering, nat_cmp}
use Rattle.std.specs.BTreeMap.{insert_entry, is_at}
use Rattle.std.specs.Map.{lookup, values_of}
use Rattle.std.proofs.lemmas.Map.Views.{tells_apart}
use Rattle.std.proofs.lemmas.Map.Made.{lookup-map_values}
use Rattle.charmlet_model.specs.declared.names.Elem.{Elem}
use Rattle.charmlet_model.specs.declared.names.Origin.{Origin}
use Rattle.charmlet_model.specs.declared.names.Origin.TheVariants as origins
use Rattle.charmlet_model.specs.declared.names.MsgId.{MsgId}
use Rattle.charmlet_model.specs.declared.message.Message.{Message}
use Rattle.charmlet_model.specs.declared.state.State.{State}
use Rattle.charmlet_model.specs.declared.state.Record.{Record}
use Rattle.charmlet_model.specs.declared.event.Event.TheVariants.{Accept, Deliver}
use Rattle.charmlet_model.specs.declared.reaction.Reaction.{Reaction}
use Rattle.charmlet_model.specs.declared.client.ClientRow.{ClientRow}
use Rattle.charmlet_model.specs.Names.{elem_cmp, same_elem}
use Rattle.charmlet_model.specs.Row.{no_client, with_reply, with_request}
use Rattle.charmlet_model.specs.World.{World, after, delivered, performed, reaction_of, message_among, without, numbered, record_of, client_of, advanced, answered, request}
use Rattle.charmlet_model.proofs.Maps.{elem_exact}
use Rattle.charmlet_model.proofs.Histories.{record_at-insert}
use Rattle.charmlet_chare.specs.declared.output.Output.{Output}
use Rattle.charmlet_world.specs.declared.element.Element.{Element}
use Rattle.charmlet_world.specs.Client.Client.{Rows, with_present}
use Rattle.charmlet_world.specs.Seen.{Held, Seen, Shows, IsCountedBy, IsSlot, client_at, element_at, new_client, no_element, place_or_home_in, present_rows}
use Rattle.charmlet_world.specs.Changed.{IsOutputOf, accepted, advanced_by, counted, delivered_in, place_after, relocated, with_answer, with_entry}
use Rattle.charmlet_world.specs.Standing.{element_in, risen}
use Rattle.charmlet_world.specs.Standing as standing
use Rattle.charmlet_world.proofs.Places.{element_at-insert}
use Rattle.charmlet_world.proofs.Risen.{found_risen}

-- ---- rows and slots

-- what is seen of an element is what its row has
pub element_risen : (x : Elem) (es : List (Elem × Element)) → element_at (risen es) x ≡ element_in es x
element_risen x es = ap (λ o. unwrap_or o no_element) (found_risen x es)

pub slot_inside : (es : List (Elem × Element)) (i : ℕ) (e : Elem × Element) → slice_get es i ≡ Some e → i < length es
slot_inside [] i e h = absurd (let no : ⊥ = cc in no)
slot_inside (f ∷ es) Prim.Native.Nat.zero e h = omega arith
slot_inside (f ∷ es) (suc i) e h = let less = slot_inside es i e h in omega arith

pub value_at : (es : List (Elem × Element)) (i : ℕ) (x : Elem) (e : Element) → slice_get es i ≡ Some (x, e) → slice_get (values_of es) i ≡ Some e
value_at [] i x e h = absurd (let no : ⊥ = cc in no)
value_at (f ∷ es) Prim.Native.Nat.zero x e h = λ j. Some (unwrap_or (h j) f).1
value_at (f ∷ es) (suc i) x e h = value_at es i x e h

-- the row of a slot is its element's
pub element_is : (es : List (Elem × Element)) (i : ℕ) (x : Elem) (e : Element) → IsSlot es i x → slice_get (values_of es) i ≡ Some e → e ≡ element_in es x
element_is es i x e slot at = let both : Some e ≡ Some (element_in es x) = sym at ∙ value_at es i x (element_in es x) slot in λ j. unwrap_or (both j) e

still_there : (es fs : List (Elem × Element)) (i : ℕ) (e : Elem × Element) → slice_get es i ≡ Some e → slice_get (es ++ fs) i ≡ Some e
still_there [] fs i e h = absurd (let no : ⊥ = cc in no)
still_there (f ∷ es) fs Prim.Native.Nat.zero e h = h
still_there (f ∷ es) fs (suc i) e h = still_there es fs i e h

-- a row stays where it is when another comes
pub slot_stays : (es : List (Elem × Element)) (y : Elem) (i : ℕ) (e : Elem × Element) → slice_get es i ≡ Some e → slice_get (standing.with_row es y) i ≡ Some e
slot_stays es y i e at = elim (is_some (lookup (same_elem y) es)) as (λ b. slice_get (if b then es else es ++ (y, no_element) ∷ []) i ≡ Some e) [
  | true ↦ at
  | false ↦ still_there es ((y, no_element) ∷ []) i e at
]

-- ---- what is kept, and what is in the fields

module _ (h v : Held) (same : v ≡ h) (id : MsgId) (m : Message) (is : Some m ≡ message_among id v.pending) (P : Held → Message → Type 0) where
  pub to_some : P v m → IfSome (message_among id h.pending) (P h)
  to_some p = subst (λ (h : Held). IfSome (message_among id h.pending) (P h)) same (subst (λ o. IfSome o (P v)) is p)

  pub from_some : IfSome (message_among id h.pending) (P h) → P v m
  from_some p = subst (λ o. IfSome o (P v)) (sym is) (subst (λ (h : Held). IfSome (message_among id h.pending) (P h)) (sym same) p)

-- ---- one element

-- an entry is made, and not seen
pub entry_unseen : (es : List (Elem × Element)) (y x : Elem) → element_at (with_entry es y) x ≡ element_at es x
entry_unseen es y x =
    element_at-insert es y (element_at es y) x
    ∙ elim (eq_by_cmp elem_cmp x y) as (λ b. eq_by_cmp elem_cmp x y ≡ b → cond b (element_at es y) (element_at es x) ≡ element_at es x) [
      | true ↦ λ same. ap (element_at es) (sym (tells_apart elem_exact x y same))
      | false ↦ λ _. refl
    ] refl

counted_on : (r : Record) (o : Reaction) (e : Element) (place : Option ℕ) → IsCountedBy r e → IsCountedBy (advanced r o) (counted e place (length o.sends))
counted_on r o e place counts = record { sent = ap (λ n. n + length o.sends) counts.sent; received = ap (λ n. n + 1) counts.received }

counted_either : (b : Bool) (e f : Element) (r s : Record) → IsCountedBy r e → IsCountedBy s f → IsCountedBy (cond b r s) (cond b e f)
counted_either true e f r s p q = p
counted_either false e f r s p q = q

there_either : (b : Bool) (e f : Element) (r s : Record) → is_some e.place ≡ is_some r.state → is_some f.place ≡ is_some s.state → is_some (cond b e f).place ≡ is_some (cond b r s).state
there_either true e f r s p q = p
there_either false e f r s p q = q

-- an element stands somewhere unless it is gone
there_unless : (o : Option State) (place : ℕ) → is_some (if is_none o then None else Some place) ≡ is_some o
there_unless None place = refl
there_unless (Some s) place = refl

-- a row more is not seen
pub row_unseen : (es fs : List (Elem × Element)) (x : Elem) → risen fs ≡ insert_entry elem_cmp (risen es) x (element_in es x) → (y : Elem) → element_in fs y ≡ element_in es y
row_unseen es fs x more y =
    sym (element_risen y fs) ∙ ap (λ rows. element_at rows y) (more ∙ ap (insert_entry elem_cmp (risen es) x) (sym (element_risen x es)))
    ∙ entry_unseen (risen es) x y ∙ element_risen y es

-- ---- rows of clients

row_at : (o : Option Rows) → unwrap_or (option_map (λ (c : Rows). c.present) o) no_client ≡ (unwrap_or o new_client).present
row_at None = refl
row_at (Some c) = refl

module _ {K X Y : Type 0} (R : K → K → Ordering) (f : X → Y) where
  abbrev valued : List (K × X) → List (K × Y)
  valued = map (λ e. (e.0, f e.1))

  chosen : (r : Ordering) (a b c : List (K × X)) → valued (match_ordering r a b c) ≡ match_ordering r (valued a) (valued b) (valued c)
  chosen Less a b c = refl
  chosen Equal a b c = refl
  chosen Greater a b c = refl

  -- mapping goes through an insertion
  pub map-insert : (k : K) (v : X) (es : List (K × X)) → map (λ e. (e.0, f e.1)) (insert_entry R es k v) ≡ insert_entry R (map (λ e. (e.0, f e.1)) es) k (f v)
  map-insert k v [] = refl
  map-insert k v (e ∷ es) =
      chosen (R k e.0) ((k, v) ∷ e ∷ es) ((e.0, v) ∷ es) (e ∷ insert_entry R es k v)
      ∙ ap (λ fs. match_ordering (R k e.0) ((k, f v) ∷ (e.0, f e.1) ∷ valued es) ((e.0, f v) ∷ valued es) ((e.0, f e.1) ∷ fs)) (map-insert k v es)

-- ---- events

module _ (k : Seen) (w : World) (shows : Shows k w) where
  pub row_is : (c : ℕ) → client_of w c ≡ (client_at k.clients c).present
  row_is c =
      ap (λ o. unwrap_or o no_client) (ap (lookup (is_at (nat_cmp c))) (sym shows.clients) ∙ lookup-map_values (λ (client : Rows). client.present) (is_at (nat_cmp c)) k.clients)
      ∙ row_at (lookup (is_at (nat_cmp c)) k.clients)

  pub accepted_shows : (client number : ℕ) (to : Elem) (entry : ℕ) (words : List ℕ) → Shows (accepted k client number to entry words) (after w (Accept client number to entry words))
  accepted_shows client number to entry words =
      let row : ClientRow = with_request (client_at k.clients client).present number in
      record {
        manifest = shows.manifest;
        there = shows.there;
        counts = shows.counts;
        pending = ap (λ ms. ms ++ request client number to entry words ∷ []) shows.pending;
        clients =
            map-insert nat_cmp (λ (c : Rows). c.present) client (with_present (client_at k.clients client) row) k.clients
            ∙ (λ i. insert_entry nat_cmp (shows.clients i) client (with_request (sym (row_is client) i) number));
      }

  -- an entry for an element is not seen
  pub entry_shows : (x : Elem) → Shows (record k { elements = with_entry k.elements x }) w
  entry_shows x = record {
    manifest = shows.manifest;
    there = λ y. ap (λ (e : Element). is_some e.place) (entry_unseen k.elements x y) ∙ shows.there y;
    counts = λ y. subst (IsCountedBy (record_of w y)) (sym (entry_unseen k.elements x y)) (shows.counts y);
    pending = shows.pending;
    clients = shows.clients;
  }

  -- nor is where one stands
  pub relocated_shows : (x : Elem) (processor : ℕ) → is_some (element_at k.elements x).place ≡ true → Shows (relocated k x processor) w
  relocated_shows x processor there =
      let e : Element = record (element_at k.elements x) { place = Some processor } in
      record {
        manifest = shows.manifest;
        there = λ y. ap (λ (f : Element). is_some f.place) (element_at-insert k.elements x e y)
            ∙ elim (eq_by_cmp elem_cmp y x) as (λ b. eq_by_cmp elem_cmp y x ≡ b → is_some (cond b e (element_at k.elements y)).place ≡ is_some (record_of w y).state) [
              | true ↦ λ same. sym there ∙ shows.there x ∙ ap (λ z. is_some (record_of w z).state) (sym (tells_apart elem_exact y x same))
              | false ↦ λ _. shows.there y
            ] refl;
        counts = λ y. subst (IsCountedBy (record_of w y)) (sym (element_at-insert k.elements x e y))
            (elim (eq_by_cmp elem_cmp y x) as (λ b. eq_by_cmp elem_cmp y x ≡ b → IsCountedBy (record_of w y) (cond b e (element_at k.elements y))) [
              | true ↦ λ same.
                  let here : IsCountedBy (record_of w y) (element_at k.elements x) = subst (λ z. IsCountedBy (record_of w y) (element_at k.elements z)) (tells_apart elem_exact y x same) (shows.counts y) in
                  record { sent = here.sent; received = here.received }
              | false ↦ λ _. shows.counts y
            ] refl);
        pending = shows.pending;
        clients = shows.clients;
      }

  module _ (id : MsgId) (m : Message) (is : message_among id k.pending ≡ Some m) (output : Output) (outcome : IsOutputOf w id output) where
    abbrev r : Reaction
    r = outcome.0

    abbrev next : World
    next = performed w m (Some r)

    abbrev new : Seen
    new = delivered_in k m output

    pub after_is : after w (Deliver id) ≡ next
    after_is =
        let is_pending : message_among id w.pending ≡ Some m = ap (message_among id) (sym shows.pending) ∙ is in
        let reacts : reaction_of w m ≡ Some r = sym (ap (option_and_then (reaction_of w)) is_pending) ∙ outcome.1 in
        ap (delivered w) is_pending ∙ ap (performed w m) reacts

    abbrev e : Element
    e = advanced_by k m.to output

    counts_are : (x : Elem) → IsCountedBy (record_of next x) (element_at new.elements x)
    counts_are x =
        let same : length output.sends ≡ length r.sends = ap (λ (o : Output). length o.sends) outcome.2 in
        let here : IsCountedBy (advanced (record_of w m.to) r) e =
        subst (λ n. IsCountedBy (advanced (record_of w m.to) r) (counted (element_at k.elements m.to) e.place n)) (sym same) (counted_on (record_of w m.to) r (element_at k.elements m.to) e.place (shows.counts m.to)) in
        subst (λ f. IsCountedBy (record_of next x) f) (sym (element_at-insert k.elements m.to e x))
        (subst (λ s. IsCountedBy s (cond (eq_by_cmp elem_cmp x m.to) e (element_at k.elements x))) (sym (record_at-insert w.records m.to (advanced (record_of w m.to) r) x))
        (counted_either (eq_by_cmp elem_cmp x m.to) e (element_at k.elements x) (advanced (record_of w m.to) r) (record_of w x) here (shows.counts x)))

    there_are : (x : Elem) → is_some (element_at new.elements x).place ≡ is_some (record_of next x).state
    there_are x =
        let here : is_some e.place ≡ is_some r.state =
        ap (λ (o : Output). is_some (place_after k m.to o.is_destroyed)) outcome.2 ∙ there_unless r.state (place_or_home_in k m.to) in
        ap (λ (f : Element). is_some f.place) (element_at-insert k.elements m.to e x)
        ∙ there_either (eq_by_cmp elem_cmp x m.to) e (element_at k.elements x) (advanced (record_of w m.to) r) (record_of w x) here (shows.there x)
        ∙ ap (λ (s : Record). is_some s.state) (sym (record_at-insert w.records m.to (advanced (record_of w m.to) r) x))

    answered_is : (origin : Origin) (number : ℕ) → present_rows (with_answer k.clients origin number output.reply) ≡ answered w.clients origin number r.reply
    answered_is (origins.Element x) number = shows.clients
    answered_is (origins.Client c) number =
        let row : ClientRow = with_reply (client_at k.clients c).present number output.reply in
        map-insert nat_cmp (λ (client : Rows). client.present) c (with_present (client_at k.clients c) row) k.clients
        ∙ (λ i. insert_entry nat_cmp (shows.clients i) c (with_reply (sym (row_is c) i) number (outcome.2 i).reply))

    shows_next : Shows new next
    shows_next = record {
      manifest = shows.manifest;
      there = there_are;
      counts = counts_are;
      pending = λ i. without m.id (shows.pending i) ++ numbered m.to ((shows.counts m.to).sent i) (outcome.2 i).sends;
      clients = answered_is m.id.origin m.id.number;
    }

    pub delivered_shows : Shows new (after w (Deliver id))
    delivered_shows = subst (Shows new) (sym after_is) shows_next
