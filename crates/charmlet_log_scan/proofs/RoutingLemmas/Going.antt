-- What is kept goes on as a world does.
use Rattle.std.proofs.Common.{◌≡◌, ℕ, ◌+◌, ◌++◌, Bool, true, false, cond, length, refl, sym, ap, subst, ◌∙◌, if◌then◌else◌}
use Rattle.std.specs.Prelude.{Option, Some, None, is_some, is_none}
use Rattle.std.specs.Ordering.{eq_by_cmp, nat_cmp}
use Rattle.std.specs.BTreeMap.{insert_entry}
use Rattle.charmlet_model.specs.declared.names.Elem.{Elem}
use Rattle.charmlet_model.specs.declared.names.Origin.{Origin}
use Rattle.charmlet_model.specs.declared.names.Origin.TheVariants as origins
use Rattle.charmlet_model.specs.declared.message.Message.{Message}
use Rattle.charmlet_model.specs.declared.reaction.Reaction.{Reaction}
use Rattle.charmlet_model.specs.declared.state.State.{State}
use Rattle.charmlet_model.specs.declared.state.Record.{Record}
use Rattle.charmlet_model.specs.declared.client.ClientRow.{ClientRow}
use Rattle.charmlet_model.specs.Names.{elem_cmp}
use Rattle.charmlet_model.specs.Row.{with_reply}
use Rattle.charmlet_model.specs.World.{World, advanced, answered, numbered, performed, record_of, without}
use Rattle.charmlet_model.proofs.Histories.{record_at-insert}
use Rattle.charmlet_chare.specs.declared.output.Output.{Output}
use Rattle.charmlet_chare.specs.Output.{output_of}
use Rattle.charmlet_world.specs.Client.Client.{Rows, with_present}
use Rattle.charmlet_world.specs.declared.element.Element.{Element}
use Rattle.charmlet_world.specs.Changed.{advanced_by, delivered_in, place_after, with_answer}
use Rattle.charmlet_world.specs.Seen.{IsCountedBy, Seen, Shows, client_at, element_at, place_or_home_in, present_rows}
use Rattle.charmlet_world.proofs.Places.{element_at-insert}
use Rattle.charmlet_world.proofs.Showing.{map-insert, row_is}

counted_either : (b : Bool) (e f : Element) (r s : Record) → IsCountedBy r e → IsCountedBy s f → IsCountedBy (cond b r s) (cond b e f)
counted_either true e f r s p q = p
counted_either false e f r s p q = q

there_either : (b : Bool) (e f : Element) (r s : Record) → is_some e.place ≡ is_some r.state → is_some f.place ≡ is_some s.state → is_some (cond b e f).place ≡ is_some (cond b r s).state
there_either true e f r s p q = p
there_either false e f r s p q = q

there_unless : (o : Option State) (place : ℕ) → is_some (if is_none o then None else Some place) ≡ is_some o
there_unless None place = refl
there_unless (Some s) place = refl

-- a delivery, of which the counts and the places go on as a reaction says
module _ (k : Seen) (w : World) (there : (x : Elem) → is_some (element_at k.elements x).place ≡ is_some (record_of w x).state) (counts : (x : Elem) → IsCountedBy (record_of w x) (element_at k.elements x))
    (m : Message) (r : Reaction) (output : Output) (same : length output.sends ≡ length r.sends) (gone : output.is_destroyed ≡ is_none r.state) where
  abbrev next : World
  next = performed w m (Some r)

  abbrev new : Seen
  new = delivered_in k m output

  abbrev e : Element
  e = advanced_by k m.to output

  pub counts_are : (x : Elem) → IsCountedBy (record_of next x) (element_at new.elements x)
  counts_are x =
      let here : IsCountedBy (advanced (record_of w m.to) r) e = record {
        sent = (λ i. (counts m.to).sent i + same i);
        received = ap (λ n. n + 1) (counts m.to).received;
      } in
      subst (λ f. IsCountedBy (record_of next x) f) (sym (element_at-insert k.elements m.to e x))
      (subst (λ s. IsCountedBy s (cond (eq_by_cmp elem_cmp x m.to) e (element_at k.elements x))) (sym (record_at-insert w.records m.to (advanced (record_of w m.to) r) x))
      (counted_either (eq_by_cmp elem_cmp x m.to) e (element_at k.elements x) (advanced (record_of w m.to) r) (record_of w x) here (counts x)))

  pub there_are : (x : Elem) → is_some (element_at new.elements x).place ≡ is_some (record_of next x).state
  there_are x =
      let here : is_some e.place ≡ is_some r.state =
      ap (λ b. is_some (place_after k m.to b)) gone ∙ there_unless r.state (place_or_home_in k m.to) in
      ap (λ (f : Element). is_some f.place) (element_at-insert k.elements m.to e x)
      ∙ there_either (eq_by_cmp elem_cmp x m.to) e (element_at k.elements x) (advanced (record_of w m.to) r) (record_of w x) here (there x)
      ∙ ap (λ (s : Record). is_some s.state) (sym (record_at-insert w.records m.to (advanced (record_of w m.to) r) x))

-- a whole delivery
module _ (k : Seen) (w : World) (shows : Shows k w) (m : Message) (r : Reaction) (output : Output) (is : output ≡ output_of r) where
  answered_is : (origin : Origin) (number : ℕ) → present_rows (with_answer k.clients origin number output.reply) ≡ answered w.clients origin number r.reply
  answered_is (origins.Element x) number = shows.clients
  answered_is (origins.Client c) number =
      let row : ClientRow = with_reply (client_at k.clients c).present number output.reply in
      map-insert nat_cmp (λ (client : Rows). client.present) c (with_present (client_at k.clients c) row) k.clients
      ∙ (λ i. insert_entry nat_cmp (shows.clients i) c (with_reply (sym (row_is k w shows c) i) number (is i).reply))

  pub shows_delivered : Shows (delivered_in k m output) (performed w m (Some r))
  shows_delivered =
      let same = ap (λ (o : Output). length o.sends) is in
      let gone = ap (λ (o : Output). o.is_destroyed) is in
      record {
        manifest = shows.manifest;
        there = there_are k w shows.there shows.counts m r output same gone;
        counts = counts_are k w shows.there shows.counts m r output same gone;
        pending = λ i. without m.id (shows.pending i) ++ numbered m.to ((shows.counts m.to).sent i) (is i).sends;
        clients = answered_is m.id.origin m.id.number;
      }
