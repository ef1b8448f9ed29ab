-- A message that is delivered in what is kept.
use Rattle.std.proofs.Common.{◌≡◌, ℕ, sym, ap, subst, ◌∙◌, List, if◌then◌else◌}
use Rattle.std.specs.Prelude.{Bool, IfSome, None, Some, slice_get, unwrap_or}
use Rattle.std.specs.BTreeMap.{insert_entry}
use Rattle.charmlet_model.specs.declared.message.Message.{Message}
use Rattle.charmlet_model.specs.declared.names.Elem.{Elem}
use Rattle.charmlet_model.specs.declared.names.MsgId.{MsgId}
use Rattle.charmlet_model.specs.Core.{home}
use Rattle.charmlet_model.specs.Names.{elem_cmp}
use Rattle.charmlet_model.specs.World.{message_among}
use Rattle.charmlet_world.specs.declared.element.Element.{Element}
use Rattle.charmlet_world.specs.Changed.{counted, with_entry}
use Rattle.charmlet_world.specs.Seen.{IsSlot, Seen, element_at}
use Rattle.charmlet_world.specs.Standing.{element_in, risen}
use Rattle.charmlet_world.proofs.Showing.{element_risen, row_unseen}

-- ---- what is kept, and what is in the fields

module _ (k v : Seen) (same : v ≡ k) (id : MsgId) (m : Message) (is : Some m ≡ message_among id v.pending) (P : Seen → Message → Type 0) where
  pub from_kept : IfSome (message_among id k.pending) (P k) → P v m
  from_kept p = subst (λ o. IfSome o (P v)) (sym is) (subst (λ (k : Seen). IfSome (message_among id k.pending) (P k)) (sym same) p)

-- ---- the row of an element

module _ (rows news : List (Elem × Element)) (x : Elem) (more : risen news ≡ insert_entry elem_cmp (risen rows) x (element_in rows x)) where
  pub its_slot : (slot : ℕ) → slice_get news slot ≡ Some (x, element_in rows x) → IsSlot news slot x
  its_slot slot at = at ∙ ap (λ (e : Element). Some (x, e)) (sym (row_unseen rows news x more x))

  -- it is what was kept
  pub row_is_kept : element_in news x ≡ element_at (risen rows) x
  row_is_kept = row_unseen rows news x more x ∙ sym (element_risen x rows)

  pub with_its_entry : risen news ≡ with_entry (risen rows) x
  with_its_entry = more ∙ ap (insert_entry elem_cmp (risen rows) x) (sym (element_risen x rows))

  pub row_has_entry : element_in news x ≡ element_at (with_entry (risen rows) x) x
  row_has_entry = sym (element_risen x news) ∙ ap (λ es. element_at es x) with_its_entry

  -- what the element then is
  pub advanced_entry : (advanced : List (Elem × Element)) (processors count sends : ℕ) (is_destroyed : Bool) → count ≡ sends →
      advanced ≡ insert_entry elem_cmp (risen news) x (counted (element_in news x) (if is_destroyed then None else Some (unwrap_or (element_in news x).place (home x processors))) count) →
      advanced ≡ insert_entry elem_cmp (with_entry (risen rows) x) x
      (counted (element_at (with_entry (risen rows) x) x) (if is_destroyed then None else Some (unwrap_or (element_at (with_entry (risen rows) x) x).place (home x processors))) sends)
  advanced_entry advanced processors count sends is_destroyed same is =
      is ∙ (λ i. insert_entry elem_cmp (with_its_entry i) x (counted (row_has_entry i) (if is_destroyed then None else Some (unwrap_or (row_has_entry i).place (home x processors))) (same i)))
