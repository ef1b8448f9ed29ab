-- The oldest message that can be delivered.
use Rattle.std.proofs.Common.{◌≡◌, ℕ, ◌+◌, ◌==◌, ◌&&◌, ◌||◌, true, false, cond, List, [], ◌∷◌, refl, sym, ap, ◌∙◌}
use Rattle.std.specs.Prelude.{Option, Some, is_none, nat_le, option_and_then, option_map}
use Rattle.std.specs.Cmp.{nat_eq_equiv}
use Rattle.std.specs.Cmp.Derive.{both_true}
use Rattle.std.specs.List.{AllByRecursion}
use Rattle.charmlet_model.specs.declared.names.Origin.{Origin}
use Rattle.charmlet_model.specs.declared.names.Origin.TheVariants.{Client, Element}
use Rattle.charmlet_model.specs.declared.names.MsgId.{MsgId}
use Rattle.charmlet_model.specs.declared.message.Message.{Message}
use Rattle.charmlet_model.specs.declared.event.Event.TheVariants.{Deliver}
use Rattle.charmlet_model.specs.declared.TheConstants.{CONSTRUCT}
use Rattle.charmlet_model.specs.Names.{same_origin, same_id}
use Rattle.charmlet_model.specs.Reaction.{greatest}
use Rattle.charmlet_model.specs.World.{World, can, can_deliver, message_among, oldest_deliverable}
use Rattle.charmlet_model.specs.Fit.{AreDistinct, AreApart}
use Rattle.charmlet_model.specs.Core.{present, place_or_home}
use Rattle.charmlet_model.proofs.Fits.{same_id-is}
use Rattle.charmlet_model.proofs.SoundLemmas.{sound_fit}
use Rattle.charmlet_world.specs.Seen.{is_deliverable, next_due, oldest, oldest_on}
use Rattle.charmlet_history.specs.Kept.{Kept, IsConsistent, core_in, due_on, is_quiet, oldest_due_on, oldest_on_in, processor_for, next_in, place_or_home_in, seen_of}
use Rattle.charmlet_history.proofs.Assigning.{place_or_home_is, there_is}

-- ---- ids

same_origin-itself : (a : Origin) → same_origin a a ≡ true
same_origin-itself (Client c) = nat_eq_equiv.refl c
same_origin-itself (Element x) = both_true (nat_eq_equiv.refl x.array) (nat_eq_equiv.refl x.index)

same_id-itself : (a : MsgId) → same_id a a ≡ true
same_id-itself a = both_true (same_origin-itself a.origin) (nat_eq_equiv.refl a.number)

-- ---- each message is the one that its id names

later : (m n : Message) (ms : List Message) → same_id m.id n.id ≡ false → message_among n.id ms ≡ Some n → message_among n.id (m ∷ ms) ≡ Some n
later m n ms apart found =
    elim (same_id n.id m.id) as (λ b. same_id n.id m.id ≡ b → cond b (Some m) (message_among n.id ms) ≡ Some n) [
      | true ↦ λ same. absurd (let no : false ≡ true = sym apart ∙ ap (same_id m.id) (same_id-is n.id m.id same) ∙ same_id-itself m.id in let never : ⊥ = cc in never)
      | false ↦ λ _. found
    ] refl

all_later : (m : Message) (ms ns : List Message) → AreApart m.id ns → AllByRecursion (λ n. message_among n.id ms ≡ Some n) ns → AllByRecursion (λ n. message_among n.id (m ∷ ms) ≡ Some n) ns
all_later m ms [] apart found = tt
all_later m ms (n ∷ ns) apart found = (later m n ms apart.0 found.0, all_later m ms ns apart.1 found.1)

all_named : (ms : List Message) → AreDistinct ms → AllByRecursion (λ m. message_among m.id ms ≡ Some m) ms
all_named [] h = tt
all_named (m ∷ ms) h = (ap (λ b. cond b (Some m) (message_among m.id ms)) (same_id-itself m.id), all_later m ms ms h.0 (all_named ms h.1))

-- ---- so the oldest one is found by the kept counts

module _ (k : Kept) (consistent : IsConsistent k) where
  abbrev w : World
  w = present (core_in k)

  deliverable_is : (m : Message) → is_deliverable (seen_of k) m ≡ can_deliver w (Some m)
  deliverable_is m =
      let counts = consistent.counts m.to in
      λ i. (sym (there_is k consistent m.to) i || (m.entry == CONSTRUCT)) && nat_le (counts.received i + 1) greatest && nat_le (counts.sent i + 16) greatest

  same_next : (ms : List Message) → AllByRecursion (λ m. message_among m.id w.pending ≡ Some m) ms → next_due (seen_of k) ms ≡ option_and_then (due_on (core_in k)) (oldest_deliverable w ms)
  same_next [] named = refl
  same_next (m ∷ ms) named =
      let core = core_in k in
      let here : Option (ℕ × MsgId) = Some (place_or_home_in k m.to, m.id) in
      let due : due_on core m.id ≡ here =
      ap (option_map (λ n. (place_or_home core n.to, m.id))) named.0 ∙ ap (λ p. Some (p, m.id)) (place_or_home_is k consistent m.to) in
      ap (λ b. cond b here (next_due (seen_of k) ms)) (deliverable_is m ∙ ap (can_deliver w) (sym named.0))
      ∙ elim (can w (Deliver m.id)) as (λ b. cond b here (next_due (seen_of k) ms) ≡ option_and_then (due_on core) (cond b (Some m.id) (oldest_deliverable w ms))) [
        | true ↦ sym due
        | false ↦ same_next ms named.1
      ]

  pub next_is : next_due (seen_of k) k.pending ≡ next_in (core_in k)
  next_is = ap (next_due (seen_of k)) consistent.pending ∙ same_next w.pending (all_named w.pending (sound_fit (core_in k) consistent.sound).distinct)

  same_on : (p : ℕ) (ms : List Message) → AllByRecursion (λ m. message_among m.id w.pending ≡ Some m) ms → oldest_on (seen_of k) p ms ≡ oldest_due_on (core_in k) p ms
  same_on p [] named = refl
  same_on p (m ∷ ms) named =
      let core = core_in k in
      let can_be = deliverable_is m ∙ ap (can_deliver w) (sym named.0) in
      (λ i. cond ((sym (place_or_home_is k consistent m.to) i == p) && can_be i) (Some m.id) (oldest_on (seen_of k) p ms))
      ∙ ap (cond ((place_or_home core m.to == p) && can w (Deliver m.id)) (Some m.id)) (same_on p ms named.1)

  pub oldest_on_is : (p : ℕ) → oldest_on (seen_of k) p k.pending ≡ oldest_on_in (core_in k) p
  oldest_on_is p = ap (oldest_on (seen_of k) p) consistent.pending ∙ same_on p w.pending (all_named w.pending (sound_fit (core_in k) consistent.sound).distinct)

  same_oldest : (ms : List Message) → AllByRecursion (λ m. message_among m.id w.pending ≡ Some m) ms → oldest (seen_of k) ms ≡ oldest_deliverable w ms
  same_oldest [] named = refl
  same_oldest (m ∷ ms) named =
      ap (λ b. cond b (Some m.id) (oldest (seen_of k) ms)) (deliverable_is m ∙ ap (can_deliver w) (sym named.0))
      ∙ ap (cond (can w (Deliver m.id)) (Some m.id)) (same_oldest ms named.1)

  pub quiet_is : is_none (oldest (seen_of k) k.pending) ≡ is_quiet (core_in k)
  quiet_is = ap is_none (ap (oldest (seen_of k)) consistent.pending ∙ same_oldest w.pending (all_named w.pending (sound_fit (core_in k) consistent.sound).distinct))

  -- the processor of any pending message
  pub due_is : (id : MsgId) (m : Message) → message_among id k.pending ≡ Some m → Some (place_or_home_in k m.to) ≡ processor_for (core_in k) id
  due_is id m found =
      sym (ap (option_map (λ n. place_or_home (core_in k) n.to)) (ap (message_among id) (sym consistent.pending) ∙ found)
      ∙ ap (λ p. Some p) (place_or_home_is k consistent m.to))
