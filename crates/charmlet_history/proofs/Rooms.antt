-- Room that stays.
use Rattle.std.proofs.Common.{◌≡◌, ℕ, true, false, cond, List, [], ◌∷◌, ◌++◌, refl, sym, ap, subst, ◌∙◌}
use Rattle.std.specs.Prelude.{Option, Some, None, IfSome, IsSome, is_some}
use Rattle.std.specs.Ordering.{eq_by_cmp, nat_cmp}
use Rattle.std.specs.BTreeMap.{insert_entry, is_at}
use Rattle.std.specs.Cmp.{nat_cmp_total}
use Rattle.std.specs.List.Sorted.{IsStrictlySortedBy}
use Rattle.std.specs.Map.{keys_of, lookup, remove_entry}
use Rattle.charmlet_model.specs.declared.names.Elem.{Elem}
use Rattle.charmlet_model.specs.declared.names.MsgId.{MsgId}
use Rattle.charmlet_model.specs.declared.message.Message.{Message}
use Rattle.charmlet_model.specs.Names.{elem_cmp, same_id}
use Rattle.charmlet_model.specs.World.{message_among}
use Rattle.charmlet_model.specs.Core.{present}
use Rattle.charmlet_model.specs.Sound.{IsAssigned}
use Rattle.charmlet_model.proofs.Maps.{elem_total, lookup-insert_entry, tied_elem}
use Rattle.charmlet_model.proofs.Deliveries.{message_of}
use Rattle.charmlet_model.proofs.Fits.{IfSome-map}
use Rattle.charmlet_model.proofs.Removals.{lookup-removed}
use Rattle.charmlet_world.specs.declared.element.Element.{Element}
use Rattle.charmlet_world.specs.Seen.{Seen}
use Rattle.charmlet_history.specs.Kept.{Kept, IsConsistent, core_in}

-- the message's receiver has an entry
abbrev pub HasEntry : List (Elem × Element) → Message → Type 0
HasEntry elements m = is_some (lookup (is_at (elem_cmp m.to)) elements) ≡ true

-- the receiver of a pending message has one
abbrev pub HasReceiverIn : MsgId → Seen → Type 0
HasReceiverIn id s = IfSome (message_among id s.pending) (HasEntry s.elements)

-- an entry stays where another one is written
pub entry_stays : (es : List (Elem × Element)) (y : Elem) (e : Element) (m : Message) → HasEntry es m → HasEntry (insert_entry elem_cmp es y e) m
entry_stays es y e m there =
    ap is_some (lookup-insert_entry elem_cmp elem_total m.to y e es)
    ∙ elim (eq_by_cmp elem_cmp m.to y) as (λ b. is_some (cond b (Some e) (lookup (is_at (elem_cmp m.to)) es)) ≡ true) [ true ↦ refl | false ↦ there ]

-- and is there where it is written
pub own_entry : (es : List (Elem × Element)) (e : Element) (m : Message) → HasEntry (insert_entry elem_cmp es m.to e) m
own_entry es e m = ap is_some (lookup-insert_entry elem_cmp elem_total m.to m.to e es ∙ ap (λ b. cond b (Some e) (lookup (is_at (elem_cmp m.to)) es)) (tied_elem m.to))

-- a pending message stays the one of its id
pub still_among : (id : MsgId) (ms ns : List Message) (m : Message) → message_among id ms ≡ Some m → message_among id (ms ++ ns) ≡ Some m
still_among id [] ns m is = absurd (let never : ⊥ = cc in never)
still_among id (n ∷ ms) ns m is =
    elim (same_id id n.id) as (λ b. cond b (Some n) (message_among id ms) ≡ Some m → cond b (Some n) (message_among id (ms ++ ns)) ≡ Some m) [
      | true ↦ λ is. is
      | false ↦ λ is. still_among id ms ns m is
    ] is

-- what is assigned is pending
pub assigned_pending : (k : Kept) → IsConsistent k → (processor : ℕ) (id : MsgId) → lookup (is_at (nat_cmp processor)) k.assigned ≡ Some id →
    (m : Message) × (message_among id k.pending ≡ Some m)
assigned_pending k consistent processor id has =
    let core = core_in k in
    let m = message_of (present core) id (subst (λ o. IfSome o (IsAssigned core processor)) has (consistent.sound.assigned processor)).can_be in
    (m.0, ap (message_among id) consistent.pending ∙ m.1)

-- a message that is there
pub the_message : (o : Option Message) → IsSome o → (m : Message) × (o ≡ Some m)
the_message None h = absurd (let never : ⊥ = cc in never)
the_message (Some m) h = (m, refl)

-- what is assigned to each processor keeps its room where one's assignment is taken
pub taken_room : (assigned : List (ℕ × MsgId)) → IsStrictlySortedBy nat_cmp (keys_of assigned) → (taken processor : ℕ) (P Q : MsgId → Type 0) → ((id : MsgId) → P id → Q id) →
    IfSome (lookup (is_at (nat_cmp processor)) assigned) P → IfSome (lookup (is_at (nat_cmp processor)) (remove_entry (is_at (nat_cmp taken)) assigned)) Q
taken_room assigned rising taken processor P Q stays room =
    let at = lookup (is_at (nat_cmp processor)) assigned in
    subst (λ o. IfSome o Q) (sym (lookup-removed nat_cmp_total processor taken assigned rising))
    (elim (eq_by_cmp nat_cmp processor taken) as (λ b. IfSome (cond b None at) Q) [ true ↦ tt | false ↦ IfSome-map P Q at stays room ])
