-- What a commit notes of its delivery.
use Rattle.std.proofs.Common.{◌≡◌, ℕ, ◌+◌, ◌-◌, ◌==◌, ◌≤◌, true, not, ◌&&◌, ◌||◌, List, [], ◌∷◌, ◌++◌, length, refl, sym, ap, subst, ◌∙◌, length-append, arith}
use Rattle.std.proofs.lemmas.Bool.Decides.{nat_tests}
use Rattle.std.specs.Prelude.{Option, Some, None, Result, Ok, Err, IfSome, IsOk, OnErr, OnOk, is_some, is_none, nat_le, option_and_then}
use Rattle.charmlet_pup.specs.Fields.{number_bytes, words_bytes}
use Rattle.charmlet_pup.specs.ReadsBack.{length-number_bytes}
use Rattle.charmlet_pup.proofs.ListLemmas.{length-words_bytes}
use Rattle.charmlet_model.specs.declared.names.Elem.{Elem}
use Rattle.charmlet_model.specs.declared.names.MsgId.{MsgId}
use Rattle.charmlet_model.specs.declared.kind_version.KindVersion.{KindVersion}
use Rattle.charmlet_model.specs.declared.message.Message.{Message}
use Rattle.charmlet_model.specs.declared.event.Event.{Event}
use Rattle.charmlet_model.specs.declared.event.Event.TheVariants as events
use Rattle.charmlet_model.specs.declared.reaction.Reaction.{Reaction}
use Rattle.charmlet_model.specs.declared.state.State.{State}
use Rattle.charmlet_model.specs.declared.state.Record.{Record}
use Rattle.charmlet_model.specs.declared.logged.CatchUpEntry.{CatchUpEntry}
use Rattle.charmlet_model.specs.declared.logged.Effect.{Effect}
use Rattle.charmlet_model.specs.declared.TheConstants.{CONSTRUCT}
use Rattle.charmlet_model.specs.Core.{Core, assigned_to, pending_message, present}
use Rattle.charmlet_model.specs.Fit.{IsFit, IsMessage}
use Rattle.charmlet_model.specs.Logging.{effect_between}
use Rattle.charmlet_model.specs.Reaction.{greatest}
use Rattle.charmlet_model.specs.Sound.{IsAssigned}
use Rattle.charmlet_model.specs.Spelling.{effect_number, spell_caught_up, spell_elem, spell_id, spell_message}
use Rattle.charmlet_model.specs.World.{World, after, can, can_deliver, version_of_array, message_among, reaction_of, record_of}
use Rattle.charmlet_model.proofs.Fits.{found, reaction-good}
use Rattle.charmlet_model.proofs.Maps.{both_parts}
use Rattle.charmlet_model.proofs.Reactions.{IsReaction}
use Rattle.charmlet_model.proofs.SoundLemmas.{sound_fit}
use Rattle.charmlet_record.proofs.Lengths.{id_size, length-spell_elem}
use Rattle.charmlet_recovery.specs.Moments.{deliveries, noted, noted_at, noted_if}
use Rattle.charmlet_chare.specs.declared.output.Output.{Output}
use Rattle.charmlet_world.specs.declared.element.Element.{Element}
use Rattle.charmlet_world.specs.Seen.{IsCountedBy, element_at}
use Rattle.charmlet_history.specs.Kept.{IsAssignedOutput, IsConsistent, Kept, assigned_message, core_in}
use Rattle.charmlet_history.proofs.Assigning.{there_is}
use Rattle.charmlet_persist.specs.declared.fuzzy_checkpoint.captured_element.CapturedElement.{CapturedElement}
use Rattle.charmlet_persist.specs.FuzzyCheckpoint.Checkpoint.{Run, caught, effect_by, with_delivery, with_message, with_reaction, with_receiver}

-- ---- results

-- what holds of a success holds where there is one
pub ok_then : {T E : Type 0} (r : Result T E) (P : Type 0) → OnOk r P → IsOk r → P
ok_then (Ok x) P h ok = h
ok_then (Err e) P h ok = absurd (let never : ⊥ = cc in never)

-- whether it is a success or not
pub either_way : {T E : Type 0} (r : Result T E) (A B P : Type 0) → OnOk r A → OnErr r B → (A → P) → (B → P) → P
either_way (Ok x) A B P a b first second = first a
either_way (Err e) A B P a b first second = second b

-- ---- sizes

-- a delivery of a catch-up list has at most 4,140 bytes
pub caught_size : (c : CatchUpEntry) → length c.message.words ≤ 512 → length (spell_caught_up c) ≤ 4140
unfolding spell_caught_up spell_message
caught_size c few =
    let m = c.message in
    let count = number_bytes 8 c.received in
    let effect = number_bytes 1 (effect_number c.effect) in
    let words = words_bytes m.words in
    let entry = number_bytes 2 m.entry in
    let to = spell_elem m.to in
    let id = spell_id m.id in
    omega (
      arith,
      few,
      length-append (id ++ (to ++ (entry ++ words))) (count ++ effect),
      length-append count effect,
      length-append id (to ++ (entry ++ words)),
      length-append to (entry ++ words),
      length-append entry words,
      id_size m.id,
      length-spell_elem m.to,
      length-number_bytes 2 m.entry,
      length-words_bytes m.words,
      length-number_bytes 8 c.received,
      length-number_bytes 1 (effect_number c.effect),
    )

-- no more deliveries are caught up than there are events
noted_few : (w : World) (m : Message) (o : Option Reaction) → length (noted w m o) ≤ 1
noted_few w m None = omega arith
noted_few w m (Some o) = omega arith

noted_if_few : (w : World) (m : Option Message) → length (noted_if w m) ≤ 1
noted_if_few w None = omega arith
noted_if_few w (Some m) = noted_few w m (reaction_of w m)

event_few : (w : World) (e : Event) → length (noted_at w e) ≤ 1
event_few w (events.Deliver id) = noted_if_few w (message_among id w.pending)
event_few w (events.Accept client number to entry words) = omega arith

pub deliveries_few : (w : World) (es : List Event) → length (deliveries w es) ≤ length es
deliveries_few w [] = omega arith
deliveries_few w (e ∷ es) = omega (arith, event_few w e, deliveries_few (after w e) es, length-append (noted_at w e) (deliveries (after w e) es))

-- ---- effects

effect_same : (was is : Option State) → effect_by (is_some was) (is_some is) ≡ effect_between was is
effect_same None None = refl
effect_same None (Some s) = refl
effect_same (Some s) None = refl
effect_same (Some s) (Some t) = refl

stays_there : (o : Option State) → not (is_none o) ≡ is_some o
stays_there None = refl
stays_there (Some s) = refl

-- ---- the assigned message

module _ (k : Kept) (consistent : IsConsistent k) (processor : ℕ) (output : Output) (outcome : IsAssignedOutput (core_in k) processor output) (m : Message) (has : assigned_message (core_in k) processor ≡ Some m) where
  abbrev core : Core
  core = core_in k

  abbrev v : World
  v = present core

  abbrev r : Record
  r = record_of v m.to

  abbrev o : Reaction
  o = outcome.0

  fit : IsFit v
  fit = sound_fit core consistent.sound

  assigned_id : (q : Option MsgId) → option_and_then (pending_message core) q ≡ Some m → (id : MsgId) × (q ≡ Some id) × (message_among id v.pending ≡ Some m)
  assigned_id None is = absurd (let never : ⊥ = cc in never)
  assigned_id (Some id) is = (id, refl, is)

  abbrev id : (id : MsgId) × (assigned_to core processor ≡ Some id) × (message_among id v.pending ≡ Some m)
  id = assigned_id (assigned_to core processor) has

  reacts : reaction_of v m ≡ Some o
  reacts = sym (ap (option_and_then (reaction_of v)) has) ∙ outcome.1

  can_be : can v (events.Deliver id.0) ≡ true
  can_be = (subst (λ q. IfSome q (IsAssigned core processor)) id.1 (consistent.sound.assigned processor)).can_be

  counts_fit : ((is_some r.state || (m.entry == CONSTRUCT)) && nat_le (r.received + 1) greatest && nat_le (r.sent + 16) greatest) ≡ true → (r.received + 1 ≤ greatest) × (r.sent + 16 ≤ greatest)
  counts_fit h =
      let two = both_parts ((is_some r.state || (m.entry == CONSTRUCT)) && nat_le (r.received + 1) greatest) (nat_le (r.sent + 16) greatest) h in
      let one = (both_parts (is_some r.state || (m.entry == CONSTRUCT)) (nat_le (r.received + 1) greatest) two.0).1 in
      (let first = one in grind (arith, nat_tests), let second = two.1 in grind (arith, nat_tests))

  bounds : (r.received + 1 ≤ greatest) × (r.sent + 16 ≤ greatest)
  bounds = counts_fit (sym (ap (can_deliver v) id.2) ∙ can_be)

  few_sends : length o.sends ≤ 16
  few_sends =
      let good = found (IsMessage v) id.0 v.pending m id.2 fit.messages in
      (subst (λ q. IfSome q (λ o. (kind_version : KindVersion) × (version_of_array v m.to.array ≡ Some kind_version) × IsReaction kind_version m.to o)) reacts (reaction-good v m fit good)).2.count

  pub few_words : length m.words ≤ 512
  few_words = (found (IsMessage v) id.0 v.pending m id.2 fit.messages).words.0

  module _ (e : Element) (e_is : e ≡ element_at k.elements m.to) where
    there : is_some e.place ≡ is_some r.state
    there = ap (λ (q : Element). is_some q.place) e_is ∙ sym (there_is k consistent m.to)

    counted : IsCountedBy r e
    counted = subst (IsCountedBy r) (sym e_is) (consistent.counts m.to)

    same_sends : length output.sends ≡ length o.sends
    same_sends = ap (λ (q : Output). length q.sends) outcome.2

    pub sent_fits : e.sent + length output.sends ≤ greatest
    sent_fits = let most = bounds.1 in let few = few_sends in omega (arith, counted.sent, same_sends)

    pub received_fits : e.received + 1 ≤ greatest
    received_fits = let most = bounds.0 in omega (arith, counted.received)

    destroyed : not output.is_destroyed ≡ is_some o.state
    destroyed = ap (λ (q : Output). not q.is_destroyed) outcome.2 ∙ stays_there o.state

    -- what is noted is what the world says
    pub noted_is : (run : Run) (captured : List (Elem × Option CapturedElement)) (bytes : List ℕ) (effect : Effect) →
        captured ≡ with_receiver run.captured m.to (is_some e.place) (not output.is_destroyed) (record { sent = e.sent + length output.sends; received = e.received + 1; packed = None }) →
        effect ≡ effect_by (is_some e.place) (not output.is_destroyed) →
        bytes ≡ run.caught_up ++ spell_caught_up (record { message = m; received = e.received + 1; effect = effect }) →
        record run { captured = captured; caught_up = bytes; count = run.count + 1; room = run.room - 1 } ≡ with_delivery core processor run
    noted_is run captured bytes effect captures effects spells =
        let new_captured : captured ≡ with_receiver run.captured m.to (is_some r.state) (is_some o.state) (record { sent = r.sent + length o.sends; received = r.received + 1; packed = None }) =
        captures ∙ (λ i. with_receiver run.captured m.to (there i) (destroyed i) (record { sent = counted.sent i + same_sends i; received = counted.received i + 1; packed = None })) in
        let new_effect : effect ≡ effect_between r.state o.state = effects ∙ (λ i. effect_by (there i) (destroyed i)) ∙ effect_same r.state o.state in
        let new_bytes : bytes ≡ run.caught_up ++ spell_caught_up (caught v m o) =
        spells ∙ (λ i. run.caught_up ++ spell_caught_up (record { message = m; received = counted.received i + 1; effect = new_effect i })) in
        (λ i. record run { captured = new_captured i; caught_up = new_bytes i; count = run.count + 1; room = run.room - 1 })
        ∙ sym (ap (λ q. with_message v q run) has ∙ ap (λ q. with_reaction v m q run) reacts)
