-- What an envelope makes of a table in which its id has a hole, once it is moved behind all others.
use Rattle.std.proofs.Common.{◌≡◌, ℕ, ◌+◌, ◌-◌, suc, Bool, true, false, cond, not, List, [], ◌∷◌, ◌++◌, length, take, drop, filter, refl, sym, ap, subst, ◌∙◌, arith, slice_get, if◌then◌else◌}
use Rattle.std.specs.Prelude.{Option, Some, None, is_some, option_map}
use Rattle.std.specs.List.{IsDistinct, position_or_len, remove}
use Rattle.std.specs.Map.{keys_of, lookup}
use Rattle.std.proofs.lemmas.List.Elements.{filter-append}
use Rattle.indexmap.specs.IndexMap.{insert_entry, move_index}
use Rattle.indexmap.proofs.RemoveLemmas.{moved_last}
use Rattle.charmlet_model.specs.declared.names.MsgId.{MsgId}
use Rattle.charmlet_model.specs.World.{message_among}
use Rattle.charmlet_model.proofs.Fits.{same_id-is}
use Rattle.charmlet_world.specs.declared.pending_message.PendingMessage.{PendingMessage}
use Rattle.charmlet_world.specs.declared.envelope.Envelope.{Envelope}
use Rattle.charmlet_world.specs.Ids.{table_eq}
use Rattle.charmlet_world.specs.Waiting.{pending_messages, live}
use Rattle.charmlet_world.proofs.Holes.{found_in, message_at}
use Rattle.charmlet_world.proofs.Ids.{table_eq-is}
use Rattle.charmlet_world.proofs.PendingMessages.{Envelopes, keys_same, lookup_pending_messages}

-- an id that has no message may have a hole
pub hole_is : (id : MsgId) (es : Envelopes) (was : Envelope) → IsDistinct table_eq (keys_of es) → message_among id (live (pending_messages es)) ≡ None → lookup (table_eq id) es ≡ Some was → was.pending_message ≡ None
hole_is id es was distinct apart at =
    let found = found_in id (pending_messages es) (subst (IsDistinct table_eq) (sym (keys_same es)) distinct) in
    let here : lookup (table_eq id) (pending_messages es) ≡ Some was.pending_message = lookup_pending_messages (table_eq id) es ∙ ap (option_map (λ (s : Envelope). s.pending_message)) at in
    by was.pending_message (ap (message_at id) (sym here) ∙ sym found ∙ apart)
  where
    by : (o : Option PendingMessage) → message_at id (Some o) ≡ None → o ≡ None
    by None h = refl
    by (Some pending_message) h = cc

module _ (id : MsgId) (new : Envelope) where
  -- it stands where the hole was
  stands : (es : Envelopes) (was : Envelope) → lookup (table_eq id) es ≡ Some was → slice_get (insert_entry table_eq es id new) (position_or_len (table_eq id) (keys_of es)) ≡ Some (id, new)
  stands [] was h = cc
  stands (e ∷ es) was h =
      let p = position_or_len (table_eq id) (keys_of es) in
      elim (table_eq id e.0) as (λ b. table_eq id e.0 ≡ b → (if b then Some e.1 else lookup (table_eq id) es) ≡ Some was → slice_get (if b then (e.0, new) ∷ es else e ∷ insert_entry table_eq es id new) (cond (not b) (1 + p) 0) ≡ Some (id, new)) [
        | true ↦ λ same _. let key : id ≡ e.0 = same_id-is id e.0 (ap (λ eq. eq id e.0) (sym table_eq-is) ∙ same) in λ j. Some (sym key j, new)
        | false ↦ λ _ later. let step : suc p ≡ 1 + p = omega arith in subst (λ k. slice_get (e ∷ insert_entry table_eq es id new) k ≡ Some (id, new)) step (stands es was later)
      ] refl h

  -- without it, the others are those that are no holes
  others : (es : Envelopes) (was : Envelope) → lookup (table_eq id) es ≡ Some was → was.pending_message ≡ None → filter (λ e. is_some e.1.pending_message) (remove (insert_entry table_eq es id new) (position_or_len (table_eq id) (keys_of es))) ≡ filter (λ e. is_some e.1.pending_message) es
  others [] was h hole = cc
  others (e ∷ es) was h hole =
      let p = position_or_len (table_eq id) (keys_of es) in
      elim (table_eq id e.0) as (λ b. (if b then Some e.1 else lookup (table_eq id) es) ≡ Some was → filter (λ e. is_some e.1.pending_message) (remove (if b then (e.0, new) ∷ es else e ∷ insert_entry table_eq es id new) (cond (not b) (1 + p) 0)) ≡ filter (λ e. is_some e.1.pending_message) (e ∷ es)) [
        | true ↦ λ here. let same : e.1 ≡ was = cc in let none : e.1.pending_message ≡ None = ap (λ (s : Envelope). s.pending_message) same ∙ hole in rw none refl
        | false ↦ λ later. let step : suc p ≡ 1 + p = omega arith in subst (λ k. filter (λ e. is_some e.1.pending_message) (remove (e ∷ insert_entry table_eq es id new) k) ≡ filter (λ e. is_some e.1.pending_message) (e ∷ es)) step (ap (λ fs. if is_some e.1.pending_message then e ∷ fs else fs) (others es was later hole))
      ] h

  pub closed_behind : (es : Envelopes) (was : Envelope) → lookup (table_eq id) es ≡ Some was → was.pending_message ≡ None → is_some new.pending_message ≡ true → filter (λ e. is_some e.1.pending_message) (move_index (insert_entry table_eq es id new) (position_or_len (table_eq id) (keys_of es)) (length (insert_entry table_eq es id new) - 1)) ≡ filter (λ e. is_some e.1.pending_message) es ++ (id, new) ∷ []
  closed_behind es was h hole there =
      let kept = λ (e : MsgId × Envelope). is_some e.1.pending_message in
      let place = position_or_len (table_eq id) (keys_of es) in
      ap (filter kept) (moved_last (insert_entry table_eq es id new) place (id, new) (stands es was h))
      ∙ filter-append kept (remove (insert_entry table_eq es id new) place) ((id, new) ∷ [])
      ∙ (λ j. others es was h hole j ++ (if there j then (id, new) ∷ [] else []))
