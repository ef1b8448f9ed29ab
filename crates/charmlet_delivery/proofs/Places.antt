-- Where elements stand before and after a step, and what the shelves show of them.
use Rattle.std.proofs.Common.{◌≡◌, inl, inr, ℕ, ◌==◌, true, false, cond, List, [], ◌∷◌, refl, sym, ap, subst, ◌∙◌}
use Rattle.std.specs.Prelude.{Option, Some, None, IfSome, is_some, unwrap_or}
use Rattle.std.specs.Cmp.{nat_eq_equiv}
use Rattle.std.specs.Ordering.{eq_by_cmp}
use Rattle.std.specs.BTreeMap.{is_at}
use Rattle.std.specs.List.Sorted.{IsStrictlySortedBy}
use Rattle.std.specs.Map.{keys_of, lookup}
use Rattle.std.proofs.lemmas.Map.Views.{tells_apart}
use Rattle.charmlet_model.specs.declared.names.Elem.{Elem}
use Rattle.charmlet_model.specs.declared.names.MsgId.{MsgId}
use Rattle.charmlet_model.specs.declared.message.Message.{Message}
use Rattle.charmlet_model.specs.declared.event.Event.TheVariants.{Deliver}
use Rattle.charmlet_model.specs.declared.refusal.Refusal.{Refusal}
use Rattle.charmlet_model.specs.declared.state.State.{State}
use Rattle.charmlet_model.specs.declared.state.Record.{Record}
use Rattle.charmlet_model.specs.Names.{elem_cmp}
use Rattle.charmlet_model.specs.World.{World, after, delivered, performed, reaction_of, record_of}
use Rattle.charmlet_model.specs.Core.{Blanks, Commit, Core, CoreStep, Stepped, Steps, assigned_to, committed, first_refusal, checks, home, next_core, pending_message, place_of, placed, placed_after, present, place_or_home, stepped_unless}
use Rattle.charmlet_model.specs.Sound.{IsAssigned, IsSound}
use Rattle.charmlet_model.specs.Shelves.{if_here, if_there}
use Rattle.charmlet_model.proofs.Deliveries.{placed-elsewhere, receiver_is}
use Rattle.charmlet_model.proofs.Histories.{record-elsewhere, world-append}
use Rattle.charmlet_model.proofs.Maps.{elem_exact, elem_total, lookup-insert_entry, tied_elem}
use Rattle.charmlet_model.proofs.Removals.{lookup-removed}

-- ---- a record on the shelf of its place

pub if_here_same : (p : ℕ) (r : Record) → if_here (Some p) p r ≡ Some r
if_here_same p r = ap (λ b. cond b (Some r) None) (nat_eq_equiv.refl p)

-- what is seen is the record
pub seen_is : (place : Option ℕ) (p : ℕ) (r v : Record) → if_here place p r ≡ Some v → r ≡ v
seen_is None p r v h = absurd (let never : ⊥ = cc in never)
seen_is (Some q) p r v h = elim (q == p) as (λ b. cond b (Some r) None ≡ Some v → r ≡ v) [ true ↦ λ is. cc | false ↦ λ no. absurd (let never : ⊥ = cc in never) ] h

-- an element with no state has no place
no_place : (o : Option ℕ) → is_some o ≡ false → o ≡ None
no_place None h = refl
no_place (Some p) h = absurd (let never : ⊥ = cc in never)

-- ---- the place of a receiver after a delivery

module _ (places : List (Elem × ℕ)) (processors : ℕ) (y : Elem) (rising : IsStrictlySortedBy elem_cmp (keys_of places)) where
  abbrev place_in : List (Elem × ℕ) → Option ℕ
  place_in entries = lookup (is_at (elem_cmp y)) entries

  put_home : (t : State) → place_in (placed places processors y None (Some t)) ≡ Some (home y processors)
  put_home t =
      lookup-insert_entry elem_cmp elem_total y y (home y processors) places
      ∙ ap (λ b. cond b (Some (home y processors)) (place_in places)) (tied_elem y)

  gone : (s : State) → place_in (placed places processors y (Some s) None) ≡ None
  gone s = lookup-removed elem_total y y places rising ∙ ap (λ b. cond b None (place_in places)) (tied_elem y)

  module _ (p : ℕ) (consistent : unwrap_or (place_in places) (home y processors) ≡ p) where
    home_is : is_some (place_in places) ≡ false → home y processors ≡ p
    home_is none = ap (λ o. unwrap_or o (home y processors)) (sym (no_place (place_in places) none)) ∙ consistent

    seen_here : (r : Record) (o : Option ℕ) → unwrap_or o (home y processors) ≡ p → is_some o ≡ true → if_here o p r ≡ Some r
    seen_here r None same some = absurd (let never : ⊥ = cc in never)
    seen_here r (Some q) same some = ap (λ n. if_here (Some n) p r) same ∙ if_here_same p r

    -- the processor's shelf shows it where it has a state
    pub shown_here : (r : Record) (s t : Option State) → r.state ≡ t → is_some (place_in places) ≡ is_some s → if_here (place_in (placed places processors y s t)) p r ≡ if_there r
    shown_here r None None is there = ap (λ o. if_here o p r) (no_place (place_in places) there) ∙ sym (ap (λ (o : Option State). cond (is_some o) (Some r) None) is)
    shown_here r None (Some t) is there =
        ap (λ o. if_here o p r) (put_home t) ∙ ap (λ n. if_here (Some n) p r) (home_is there) ∙ if_here_same p r
        ∙ sym (ap (λ (o : Option State). cond (is_some o) (Some r) None) is)
    shown_here r (Some s) None is there = ap (λ o. if_here o p r) (gone s) ∙ sym (ap (λ (o : Option State). cond (is_some o) (Some r) None) is)
    shown_here r (Some s) (Some t) is there = seen_here r (place_in places) consistent there ∙ sym (ap (λ (o : Option State). cond (is_some o) (Some r) None) is)

    -- no other one shows it
    module _ (q : ℕ) (apart : (p == q) ≡ false) where
      unseen : (r : Record) (o : Option ℕ) → unwrap_or o (home y processors) ≡ p → if_here o q r ≡ None
      unseen r None same = refl
      unseen r (Some n) same = ap (λ n. if_here (Some n) q r) same ∙ ap (λ b. cond b (Some r) None) apart

      pub unseen_before : (r : Record) → if_here (place_in places) q r ≡ None
      unseen_before r = unseen r (place_in places) consistent

      pub unseen_after : (r : Record) (s t : Option State) → is_some (place_in places) ≡ is_some s → if_here (place_in (placed places processors y s t)) q r ≡ None
      unseen_after r None None there = unseen r (place_in places) consistent
      unseen_after r None (Some t) there =
          ap (λ o. if_here o q r) (put_home t) ∙ unseen r (Some (home y processors)) (home_is there)
      unseen_after r (Some s) None there = ap (λ o. if_here o q r) (gone s)
      unseen_after r (Some s) (Some t) there = unseen r (place_in places) consistent

-- ---- places and records after a commit

module _ (core : Core) (sound : IsSound core) (p : ℕ) (id : MsgId) (m : Message) (here : assigned_to core p ≡ Some id) (is : pending_message core id ≡ Some m) where
  abbrev next : Core
  next = next_core core (Commit p)

  abbrev v : World
  v = performed (present core) m (reaction_of (present core) m)

  after_is : after (present core) (Deliver id) ≡ v
  after_is = ap (delivered (present core)) is

  pub present_next : present next ≡ v
  present_next = ap (λ o. present (committed core p o)) here ∙ world-append core.opening core.history (Deliver id ∷ []) ∙ after_is

  abbrev places_after : List (Elem × ℕ)
  places_after = placed core.places core.processors m.to (record_of (present core) m.to).state (record_of v m.to).state

  pub places_next : next.places ≡ places_after
  places_next =
      ap (λ o. (committed core p o).places) here ∙ ap (placed_after core id) is
      ∙ ap (λ (w : World). placed core.places core.processors m.to (record_of (present core) m.to).state (record_of w m.to).state) after_is

  abbrev assigned : IsAssigned core p id
  assigned = subst (λ o. IfSome o (IsAssigned core p)) here (sound.assigned p)

  pub stands_here : place_or_home core m.to ≡ p
  stands_here = receiver_is core p id m assigned is

  abbrev place_by : (x : Elem) → List (Elem × ℕ) → Option ℕ
  place_by x entries = lookup (is_at (elem_cmp x)) entries

  -- of the receiver the processor's shelf shows what is there
  pub receiver_shown : (r : Record) → record_of v m.to ≡ r → if_here (place_of next m.to) p r ≡ if_there r
  receiver_shown r made =
      ap (λ places. if_here (place_by m.to places) p r) places_next
      ∙ shown_here core.places core.processors m.to sound.rising_places p stands_here r (record_of (present core) m.to).state (record_of v m.to).state
      (ap (λ (r : Record). r.state) (sym made)) (sound.placed m.to).there

  -- of the other elements all stays
  pub others_stay : (x : Elem) → eq_by_cmp elem_cmp x m.to ≡ false → (place_of next x ≡ place_of core x) × (record_of (present next) x ≡ record_of (present core) x)
  others_stay x apart = (
    ap (place_by x) places_next
        ∙ placed-elsewhere core.places core.processors m.to sound.rising_places x apart (record_of (present core) m.to).state (record_of v m.to).state,
    ap (λ (w : World). record_of w x) present_next ∙ record-elsewhere (present core) m (reaction_of (present core) m) x apart,
  )

  -- and so does what the other processors show
  pub commit_elsewhere : (q : ℕ) → (p == q) ≡ false → (x : Elem) → if_here (place_of next x) q (record_of (present next) x) ≡ if_here (place_of core x) q (record_of (present core) x)
  commit_elsewhere q apart x = elim (eq_by_cmp elem_cmp x m.to) as (λ b. eq_by_cmp elem_cmp x m.to ≡ b → if_here (place_of next x) q (record_of (present next) x) ≡ if_here (place_of core x) q (record_of (present core) x)) [
    | true ↦ λ same.
        let x_is : x ≡ m.to = tells_apart elem_exact x m.to same in
        subst (λ x. if_here (place_of next x) q (record_of (present next) x) ≡ if_here (place_of core x) q (record_of (present core) x)) (sym x_is)
        (ap (λ places. if_here (place_by m.to places) q (record_of (present next) m.to)) places_next
        ∙ unseen_after core.places core.processors m.to sound.rising_places p stands_here q apart (record_of (present next) m.to) (record_of (present core) m.to).state (record_of v m.to).state (sound.placed m.to).there
        ∙ sym (unseen_before core.places core.processors m.to sound.rising_places p stands_here q apart (record_of (present core) m.to)))
    | false ↦ λ other.
        let stays = others_stay x other in
        λ i. if_here (stays.0 i) q (stays.1 i)
  ] refl

-- ---- steps

-- what holds before a step, once it halts, and after it, holds of the core that it leads to
module _ (P : Core → Type 0) (core : Core) (blanks : Blanks) (step : CoreStep) (before : P core) (halted : P (record core { halted = true })) (done : P (next_core core step)) where
  unless : (o : Option Refusal) → P (stepped_unless core blanks step o).core
  unless None = done
  unless (Some refusal) = before

  pub stepped_core : (last : Stepped) → Steps core blanks step last → P last.core
  stepped_core last s = elim s.1 [
    | inl same ↦ subst (λ (n : Stepped). P n.core) (sym same) (unless (first_refusal (checks core blanks step)))
    | inr lacking ↦ elim lacking [
      | inl memory ↦ subst (λ (n : Stepped). P n.core) (sym memory.1) before
      | inr device ↦ subst (λ (n : Stepped). P n.core) (sym device.1) halted
    ]
  ]

-- a commit leaves the number of processors
pub same_processors : (core : Core) (p : ℕ) → (next_core core (Commit p)).processors ≡ core.processors
same_processors core p = by (assigned_to core p)
  where
    by : (o : Option MsgId) → (committed core p o).processors ≡ core.processors
    by None = refl
    by (Some id) = refl
