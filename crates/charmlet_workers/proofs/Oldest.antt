-- The oldest message on a processor can be delivered there.
use Rattle.std.proofs.Common.{◌≡◌, ℕ, ◌+◌, ◌==◌, ◌&&◌, ◌||◌, true, false, List, [], ◌∷◌, Some, if◌then◌else◌, refl, sym, ap, subst, ◌∙◌}
use Rattle.std.specs.Prelude.{nat_le}
use Rattle.std.specs.Cmp.{nat_eq_equiv}
use Rattle.std.specs.Cmp.Derive.{both_true}
use Rattle.charmlet_model.specs.declared.names.Origin.{Origin}
use Rattle.charmlet_model.specs.declared.names.Origin.TheVariants.{Client, Element}
use Rattle.charmlet_model.specs.declared.names.MsgId.{MsgId}
use Rattle.charmlet_model.specs.declared.message.Message.{Message}
use Rattle.charmlet_model.specs.declared.event.Event.TheVariants.{Deliver}
use Rattle.charmlet_model.specs.declared.TheConstants.{CONSTRUCT}
use Rattle.charmlet_model.specs.Core.{Core, is_present, pending_message, place_or_home, present}
use Rattle.charmlet_model.specs.Fit.{AreApart, AreDistinct}
use Rattle.charmlet_model.specs.Names.{same_id, same_origin}
use Rattle.charmlet_model.specs.Reaction.{greatest}
use Rattle.charmlet_model.specs.Sound.{IsSound}
use Rattle.charmlet_model.specs.World.{can, can_deliver, message_among, record_of}
use Rattle.charmlet_model.proofs.Fits.{found, found-id, same_id-is}
use Rattle.charmlet_model.proofs.Maps.{both_parts}
use Rattle.charmlet_model.proofs.SoundLemmas.{sound_fit}
use Rattle.charmlet_history.specs.Kept.{oldest_due_on, oldest_on_in}

same_origin-itself : (a : Origin) → same_origin a a ≡ true
same_origin-itself (Client c) = nat_eq_equiv.refl c
same_origin-itself (Element x) = both_true (nat_eq_equiv.refl x.array) (nat_eq_equiv.refl x.index)

same_id-itself : (a : MsgId) → same_id a a ≡ true
same_id-itself a = both_true (same_origin-itself a.origin) (nat_eq_equiv.refl a.number)

-- a message of another id comes before
found_behind : (m n : Message) (ms : List Message) (id : MsgId) → AreApart m.id ms → message_among id ms ≡ Some n → message_among id (m ∷ ms) ≡ Some n
found_behind m n ms id apart there =
    elim (same_id id m.id) as (λ b. same_id id m.id ≡ b → (if b then Some m else message_among id ms) ≡ Some n) [
      | true ↦ λ same.
          let mine : id ≡ m.id = same_id-is id m.id same in
          let its : id ≡ n.id = found-id id ms n there in
          let other : same_id m.id n.id ≡ false = found (λ (x : Message). same_id m.id x.id ≡ false) id ms n there apart in
          let no : false ≡ true = sym other ∙ (λ i. same_id (sym mine i) (sym its i)) ∙ same_id-itself id in
          let never : ⊥ = cc in
          absurd never
      | false ↦ λ _. there
    ] refl

-- the message of this id is pending, stands on the processor, and can be delivered
abbrev IsDueAmong : Core → ℕ → List Message → MsgId → Type 0
IsDueAmong core p ms id = (m : Message) × (message_among id ms ≡ Some m) × ((place_or_home core m.to == p) ≡ true) × (can (present core) (Deliver id) ≡ true)

oldest_is_due : (core : Core) (p : ℕ) (ms : List Message) (id : MsgId) → AreDistinct ms → oldest_due_on core p ms ≡ Some id → IsDueAmong core p ms id
oldest_is_due core p [] id distinct is = absurd (let never : ⊥ = cc in never)
oldest_is_due core p (m ∷ ms) id distinct is =
    let here = place_or_home core m.to == p in
    let possible = can (present core) (Deliver m.id) in
    elim (here && possible) as (λ b. (here && possible) ≡ b → (if b then Some m.id else oldest_due_on core p ms) ≡ Some id → IsDueAmong core p (m ∷ ms) id) [
      | true ↦ λ both first.
          let same : m.id ≡ id = cc in
          let parts = both_parts here possible both in
          subst (IsDueAmong core p (m ∷ ms)) same (m, ap (λ b. if b then Some m else message_among m.id ms) (same_id-itself m.id), parts.0, parts.1)
      | false ↦ λ _ later.
          let it = oldest_is_due core p ms id distinct.1 later in
          (it.0, found_behind m it.0 ms id distinct.0 it.1, it.2, it.3)
    ] refl is

-- a message that is pending, whose receiver is there or is constructed by it, and stands on the
-- processor
pub record IsDeliverable (core : Core) (p : ℕ) (id : MsgId) : Type 0 where
  pub message : Message
  pub pending : pending_message core id ≡ Some message
  pub there : (is_present core message.to || (message.entry == CONSTRUCT)) ≡ true
  pub here : (place_or_home core message.to == p) ≡ true

pub oldest_is_deliverable : (core : Core) (p : ℕ) (id : MsgId) → IsSound core → oldest_on_in core p ≡ Some id → IsDeliverable core p id
oldest_is_deliverable core p id sound is =
    let w = present core in
    let it = oldest_is_due core p w.pending id (sound_fit core sound).distinct is in
    let m = it.0 in
    let r = record_of w m.to in
    let there = is_present core m.to || (m.entry == CONSTRUCT) in
    let can_be : can_deliver w (Some m) ≡ true = ap (can_deliver w) (sym it.1) ∙ it.3 in
    let counts = both_parts (there && nat_le (r.received + 1) greatest) (nat_le (r.sent + 16) greatest) can_be in
    record {
      message = m;
      pending = it.1;
      there = (both_parts there (nat_le (r.received + 1) greatest) counts.0).0;
      here = it.2;
    }
