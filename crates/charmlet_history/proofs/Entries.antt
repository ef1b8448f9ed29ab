-- The receivers of what is assigned have entries, after each change.
use Rattle.std.proofs.Common.{◌≡◌, ℕ, ◌≤◌, Bool, false, true, cond, List, [], ◌∷◌, ◌++◌, length, refl, sym, ap, subst, ◌∙◌, arith}
use Rattle.std.specs.Prelude.{Option, Some, None, IfSome}
use Rattle.std.specs.Ordering.{eq_by_cmp, nat_cmp}
use Rattle.std.specs.Cmp.{nat_cmp_total}
use Rattle.std.specs.BTreeMap.{is_at}
use Rattle.std.specs.Map.{lookup, remove_entry}
use Rattle.charmlet_model.specs.declared.names.MsgId.{MsgId}
use Rattle.charmlet_model.specs.declared.message.Message.{Message}
use Rattle.charmlet_model.specs.Names.{same_id}
use Rattle.charmlet_model.specs.World.{message_among, without}
use Rattle.charmlet_model.specs.Core.{Core, pending_message}
use Rattle.charmlet_model.specs.Sound.{IsAssigned}
use Rattle.charmlet_model.proofs.Deliveries.{apart_ids, apart_receivers, message-append, message-without}
use Rattle.charmlet_model.proofs.Fits.{IfSome-map, found-id}
use Rattle.charmlet_model.proofs.Removals.{lookup-removed}
use Rattle.charmlet_world.specs.output.Output.{Output}
use Rattle.charmlet_record.specs.WalBuffer.{Batched, HasRoomFor}
use Rattle.charmlet_world.specs.Seen.{element_at}
use Rattle.charmlet_history.specs.Delivered.{advanced_by, delivered_in, with_receiver, with_room}
use Rattle.charmlet_history.specs.Kept.{Kept, IsConsistent, core_in}
use Rattle.charmlet_history.specs.Whole.{HasReceiver, HasReceivers}
use Rattle.charmlet_history.proofs.Rooms.{HasEntry, assigned_pending, entry_stays}

-- fewer are fewer bytes
pub fewer_bytes : (b : Batched) (n m : ℕ) → n ≤ m → HasRoomFor b m → HasRoomFor b n
fewer_bytes b n m few room = let bytes = room.bytes in let starts = room.starts in record { bytes = omega (arith, bytes, few); starts = omega (arith, starts, few) }

-- an assignment that is taken leaves no more of them
pub fewer_left : (es : List (ℕ × MsgId)) (test : ℕ → Bool) → length (remove_entry test es) ≤ length es
fewer_left [] test = omega arith
fewer_left (e ∷ es) test =
    elim (test e.0) as (λ b. length (cond b es (e ∷ remove_entry test es)) ≤ length (e ∷ es)) [
      | true ↦ omega arith
      | false ↦ let rest = fewer_left es test in omega (arith, rest)
    ]

-- ---- more messages

-- a receiver that is kept stays where more messages come
pub receivers_with : (k : Kept) → IsConsistent k → (more : List Message) → HasReceivers k → HasReceivers (record k { pending = k.pending ++ more })
receivers_with k consistent more all = λ q.
    elim (lookup (is_at (nat_cmp q)) k.assigned) as (λ o. lookup (is_at (nat_cmp q)) k.assigned ≡ o → IfSome o (HasReceiver k) → IfSome o (HasReceiver (record k { pending = k.pending ++ more }))) [
      | None ↦ λ _ _. tt
      | Some id ↦ λ at there.
          let m = assigned_pending k consistent q id at in
          let entry : HasEntry k.elements m.0 = subst (λ o. IfSome o (HasEntry k.elements)) m.1 there in
          subst (λ o. IfSome o (HasEntry k.elements)) (sym (message-append id k.pending more m.0 m.1)) entry
    ] refl (all q)

-- and where another one gets an entry
pub receivers_with_room : (k : Kept) (id : MsgId) → HasReceivers k → HasReceivers (with_room k id)
receivers_with_room k id all = λ q.
    IfSome-map (HasReceiver k) (HasReceiver (with_room k id)) (lookup (is_at (nat_cmp q)) k.assigned)
    (λ other there. IfSome-map (HasEntry k.elements) (HasEntry (with_receiver k.elements (message_among id k.pending))) (message_among other k.pending) (λ m here. with_one (message_among id k.pending) m here) there) (all q)
  where
    with_one : (o : Option Message) (m : Message) → HasEntry k.elements m → HasEntry (with_receiver k.elements o) m
    with_one None m here = here
    with_one (Some n) m here = entry_stays k.elements n.to (element_at k.elements n.to) m here

-- ---- a delivery

module _ (k : Kept) (consistent : IsConsistent k) (processor : ℕ) (id : MsgId) (has : lookup (is_at (nat_cmp processor)) k.assigned ≡ Some id) (m : Message) (is : message_among id k.pending ≡ Some m)
    (output : Output) (wal_buffer : Batched) where
  abbrev new : Kept
  new = delivered_in k wal_buffer processor m output

  abbrev core : Core
  core = core_in k

  of : (q : ℕ) (other : MsgId) → lookup (is_at (nat_cmp q)) k.assigned ≡ Some other → IsAssigned core q other
  of q other at = subst (λ o. IfSome o (IsAssigned core q)) at (consistent.sound.assigned q)

  other_stays : (q : ℕ) (other : MsgId) → eq_by_cmp nat_cmp q processor ≡ false → lookup (is_at (nat_cmp q)) k.assigned ≡ Some other → HasReceiver k other → HasReceiver new other
  other_stays q other apart at there =
      let n = assigned_pending k consistent q other at in
      let is_m : pending_message core id ≡ Some m = ap (message_among id) (sym consistent.pending) ∙ is in
      let is_n : pending_message core other ≡ Some n.0 = ap (message_among other) (sym consistent.pending) ∙ n.1 in
      let receivers = apart_receivers core processor q id other m n.0 (of processor id has) (of q other at) is_m is_n apart in
      let ids : same_id other m.id ≡ false = subst (λ i. same_id other i ≡ false) (found-id id k.pending m is) (apart_ids core id other m n.0 is_m is_n receivers) in
      let pending : message_among other new.pending ≡ Some n.0 = message-append other (without m.id k.pending) _ n.0 (message-without other m.id k.pending ids ∙ n.1) in
      let entry : HasEntry k.elements n.0 = subst (λ o. IfSome o (HasEntry k.elements)) n.1 there in
      subst (λ o. IfSome o (HasEntry new.elements)) (sym pending) (entry_stays k.elements m.to (advanced_by k m.to output) n.0 entry)

  pub receivers_stay : HasReceivers k → HasReceivers new
  receivers_stay all = λ q.
      subst (λ o. IfSome o (HasReceiver new)) (sym (lookup-removed nat_cmp_total q processor k.assigned consistent.sound.rising_assigned))
      (elim (eq_by_cmp nat_cmp q processor) as (λ b. eq_by_cmp nat_cmp q processor ≡ b → IfSome (cond b None (lookup (is_at (nat_cmp q)) k.assigned)) (HasReceiver new)) [
        | true ↦ λ _. tt
        | false ↦ λ apart.
            elim (lookup (is_at (nat_cmp q)) k.assigned) as (λ o. lookup (is_at (nat_cmp q)) k.assigned ≡ o → IfSome o (HasReceiver k) → IfSome o (HasReceiver new)) [
              | None ↦ λ _ _. tt
              | Some other ↦ λ at there. other_stays q other apart at there
            ] refl (all q)
      ] refl)
