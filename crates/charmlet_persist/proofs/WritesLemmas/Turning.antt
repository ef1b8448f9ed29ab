-- What outcomes keep while an image takes the place of the store.
use Rattle.std.proofs.Common.{◌≡◌, inl, inr, ⊎_elim, ℕ, ◌+◌, ◌-◌, ◌<◌, ◌^◌, ◌≤◌, false, List, [], ◌∷◌, ◌++◌, length, take, refl, sym, ap, subst, ◌∙◌, arith}
use Rattle.std.specs.Prelude.{Option, Some, None, drop}
use Rattle.std.specs.List.{flat_map}
use Rattle.std.proofs.lemmas.List.{take-append-drop, take_at, take_all, length-drop, get_or_push, length_push}
use Rattle.charmlet_model.specs.declared.event.Event.{Event}
use Rattle.charmlet_model.specs.declared.logged.Logged.{Logged}
use Rattle.charmlet_model.specs.Core.{Core, durable_world, present}
use Rattle.charmlet_model.specs.KindVersion.{AreNewest}
use Rattle.charmlet_model.specs.Half.{other}
use Rattle.charmlet_model.specs.Spelling.{spell_log}
use Rattle.charmlet_model.specs.World.{World, world, IsLegal}
use Rattle.charmlet_model.proofs.Histories.{world-append}
use Rattle.charmlet_model.proofs.Upgrades.{up_is_newest}
use Rattle.charmlet_recovery.proofs.Saving.{saved_is_sound, newest-world}
use Rattle.charmlet_image.specs.Images.{Saved, spell_half, spell_header, spell_image}
use Rattle.charmlet_image.specs.Spelled.{Spells}
use Rattle.charmlet_recovery.specs.Faults.{Place, first_fault}
use Rattle.charmlet_recovery.specs.Meanings.{Whole, unless_faulty}
use Rattle.charmlet_recovery.specs.Recovered.{log_of, meaning_of}
use Rattle.charmlet_recovery.specs.Stores.{Stores}
use Rattle.charmlet_recovery.specs.Outcomes.{Keeps}
use Rattle.charmlet_recovery.proofs.Writing.{standing_is_stored, next_halves_stand, next_halves_are_stored, newest_halves_go_on}
use Rattle.charmlet_disk.specs.declared.disk.Disk.{Ghosts}
use Rattle.charmlet_disk.specs.Disk.{LeavesOnly}
use Rattle.charmlet_disk.specs.File.{CrashBytes, MayLeave}
use Rattle.charmlet_disk.proofs.Moments.{weaker}
use Rattle.charmlet_halves.specs.declared.halves.Halves.{Halves}
use Rattle.charmlet_halves.specs.Bytes.{EndsClosed, before_gate}
use Rattle.charmlet_halves.specs.Halves.{disk_of, is_halted, spare_of, taken_of, taken_half, text_of, image_to, KeepsTaken, HasOldOrImage}
use Rattle.charmlet_history.specs.Kept.{sealed_at}
use Rattle.charmlet_persist.specs.Writes.Rest.{Rests, HasSealed, IsAtRest, IsCurrent, IsKept, GoesOn, Turned, IsNextImage, IsSealing, HasOldOrSealed, StoresOldOrImage, keeps_durable}
use Rattle.charmlet_persist.proofs.WritesLemmas.Resting.{said_once, spells_text, rest_stores, rest_taken, stores_keep}
use Rattle.charmlet_persist.proofs.WritesLemmas.FlushLemmas.{fresh, leaves_durable}

-- ---- bytes

-- what ends with a closed gate, and what stands before it
text_ends : (text : List ℕ) → EndsClosed (text ++ 0 ∷ [])
text_ends text =
    let size = length_push text 0 in
    record { some = omega arith; closed = λ same. absurd (omega (arith, get_or_push text 0 0 (length (text ++ 0 ∷ []) - 1) (omega arith), same)) }

pub text_before : (text : List ℕ) → before_gate (text ++ 0 ∷ []) ≡ text
text_before text = let size = length_push text 0 in take_at text (0 ∷ []) (length (text ++ 0 ∷ []) - 1) (omega arith)

-- the bytes of a half after its first gate
abbrev inner : Saved → List ℕ
inner s = spell_header s.header ++ (spell_image s.header.mark s.image ++ spell_log s.batches)

unlocked : (s : Saved) → spell_half s ≡ 1 ∷ inner s
unfolding spell_half
unlocked s = refl

sealing_is : (core : Core) (bytes : List ℕ) (is : IsSealing core bytes) → bytes ≡ inner is.saved ++ 0 ∷ []
sealing_is core bytes is = ap (drop 1) (is.text ∙ ap (λ (l : List ℕ). l ++ 0 ∷ []) (unlocked is.saved))

pub sealing_ends : (core : Core) (bytes : List ℕ) → IsSealing core bytes → EndsClosed bytes
sealing_ends core bytes is = subst EndsClosed (sym (sealing_is core bytes is)) (text_ends (inner is.saved))

sealing_text : (core : Core) (bytes : List ℕ) (is : IsSealing core bytes) → 1 ∷ before_gate bytes ≡ spell_half is.saved
sealing_text core bytes is =
    ap (λ (l : List ℕ). 1 ∷ l) (ap before_gate (sealing_is core bytes is) ∙ text_before (inner is.saved)) ∙ sym (unlocked is.saved)

-- the text of a half that has these bytes
pub sealed_text : (core : Core) (bytes text : List ℕ) → IsSealing core bytes → text ≡ 1 ∷ before_gate bytes → 1 ∷ bytes ≡ text ++ 0 ∷ []
sealed_text core bytes text is same = is.text ∙ ap (λ (l : List ℕ). l ++ 0 ∷ []) (sym (same ∙ sealing_text core bytes is))

-- such bytes are as many as those of the half without its closed gate
sealing_length : (core : Core) (bytes : List ℕ) (is : IsSealing core bytes) → length bytes ≡ length (spell_half is.saved)
sealing_length core bytes is =
    let text = ap length is.text in
    let pushed = length_push (spell_half is.saved) 0 in
    omega (arith, text, pushed)

-- what means a world means so many events
whole_count : (o : Option Place) (v w : World) (n m : ℕ) → unless_faulty o v n ≡ Whole w m → n ≡ m
whole_count None v w n m e = cc
whole_count (Some place) v w n m e = absurd (let never : ⊥ = cc in never)

-- all events were counted by the image, since none is in its log
sealing_events : (core : Core) (bytes : List ℕ) (is : IsSealing core bytes) → is.saved.header.events ≡ core.before + length core.history
sealing_events core bytes is =
    let s = is.saved in
    let logged : length (log_of s) ≡ 0 = ap (λ (batches : List (List Logged)). length (flat_map (λ (batch : List Logged). batch) batches)) is.no_batch in
    let all = whole_count (first_fault s.image s.header.events (log_of s)) _ (present core) (s.header.events + length (log_of s)) (core.before + length core.history) is.means in
    omega (arith, logged, all)

-- ---- outcomes

module _ {D : Type 0} {G : Ghosts D} (old : Halves D G) (bytes : List ℕ) (w : World) (count generation : ℕ) (history : List Event) (honest : G.honest (disk_of old)) (going : is_halted old ≡ false)
    (next : IsNextImage old bytes w count generation history) where
  said : Spells (taken_of old) (spell_half next.rests.saved)
  said = spells_text old w count generation honest going next.rests

  -- what is stored before the gate is opened
  pub prepared_stores : (o : CrashBytes) → KeepsTaken old o → StoresOldOrImage w count generation history o
  prepared_stores o has =
      inl (standing_is_stored o (taken_half old) next.rests.saved (spare_of old) w count generation next.rests.stands
      (subst (λ (l : List ℕ). Spells l (spell_half next.rests.saved)) (sym has.0) said) has.1)

  -- the world of the halves has the newest versions, and so has the one after these events
  newest : AreNewest (world w history).manifest
  newest =
      let half = saved_is_sound next.rests.saved w count next.rests.stands.good next.rests.stands.means in
      newest-world w history (subst (λ (v : World). AreNewest v.manifest) (sym half.is) (up_is_newest half.old))

  goes_on : (meaning_of next.saved ≡ Whole (world w history) (count + length history)) × AreNewest next.saved.image.manifest
  goes_on = newest_halves_go_on next.saved (world w history) (count + length history) next.good next.means newest

  module _ (mid : Halves D G) (same : taken_of mid ≡ taken_of old) (at : ℕ) (image : image_to mid at ≡ before_gate bytes) where
    text : 1 ∷ image_to mid at ≡ spell_half next.saved
    text = ap (λ (l : List ℕ). 1 ∷ l) image ∙ next.text

    -- and while it is
    pub opened_stores : (o : CrashBytes) → HasOldOrImage mid (image_to mid at) o → StoresOldOrImage w count generation history o
    opened_stores o has =
        next_halves_are_stored o (taken_half mid) next.rests.saved next.saved (spare_of old) w (world w history) count (count + length history) generation next.rests.stands
        (subst (λ (l : List ℕ). Spells l (spell_half next.rests.saved)) (sym (has.0 ∙ same)) said) next.good goes_on.0 next.has_generation
        (⊎_elim (λ closed. inl closed) (λ new. inr (subst (Spells (o (other (taken_half mid)))) text new)) has.1)

    -- then the halves rest on the image
    pub opened_rests : (new : Halves D G) → text_of new ≡ 1 ∷ image_to mid at → spare_of new ≡ taken_of mid → Rests new (world w history) (count + length history) (generation + 1)
    opened_rests new says spare = record {
      saved = next.saved;
      text = says ∙ text;
      stands = next_halves_stand next.rests.saved next.saved (spare_of old) (spare_of new) w (world w history) count (count + length history) generation next.rests.stands
          (subst (λ (l : List ℕ). Spells l (spell_half next.rests.saved)) (sym (spare ∙ same)) said) next.good goes_on.0 next.has_generation;
    }

    -- and it has the newest versions, whatever the old half had
    pub opened_current : (new : Halves D G) → text_of new ≡ 1 ∷ image_to mid at → IsCurrent new
    opened_current new says = record { saved = next.saved; text = says ∙ text; good = next.good; newest = goes_on.1 }

-- either of the two keeps what was there
image_keeps : (w : World) (count generation : ℕ) (history : List Event) (o : CrashBytes) → StoresOldOrImage w count generation history o → Keeps w count history 0 o
image_keeps w count generation history o stored =
    let none : count ≡ count + 0 = omega arith in
    ⊎_elim
    (λ old. stores_keep w count generation history 0 o (omega arith) (subst (λ (n : ℕ). Stores o w n generation) none old))
    (λ new. stores_keep w count (generation + 1) history (length history) o (omega arith)
    (subst (λ (es : List Event). Stores o (world w es) (count + length history) (generation + 1)) (sym (take_all (length history) history (omega arith))) new))
    stored

-- ---- the core

-- the events that aren't durable lead to the present world
all_world : (core : Core) → world (durable_world core) (fresh core) ≡ present core
all_world core = sym (world-append core.opening (take core.durable core.history) (fresh core)) ∙ ap (world core.opening) (take-append-drop core.durable core.history)

all_count : (core : Core) → core.durable ≤ length core.history → core.before + core.durable + length (fresh core) ≡ core.before + length core.history
all_count core within = omega (arith, length-drop core.durable core.history)

-- what is stored while the image is written
abbrev pub stores_fresh : Core → CrashBytes → Type 0
stores_fresh core = StoresOldOrImage (durable_world core) (core.before + core.durable) core.generation (fresh core)

has_sealed : (core : Core) → core.durable ≤ length core.history → (o : CrashBytes) → stores_fresh core o → HasOldOrSealed core o
has_sealed core within o stored =
    ⊎_elim (λ old. inl old)
    (λ new. inr
    (subst (λ (n : ℕ). Stores o (present core) n (core.generation + 1)) (all_count core within)
    (subst (λ (v : World). Stores o v (core.before + core.durable + length (fresh core)) (core.generation + 1)) (all_world core) new)))
    stored

module _ {D : Type 0} {G : Ghosts D} (core : Core) (legal : IsLegal core.opening core.before core.history) (within : core.durable ≤ length core.history) where
  -- an image of the present world is one of what is durable and the events that aren't
  pub next_image : (halves : Halves D G) (bytes : List ℕ) → IsAtRest core halves → IsSealing core bytes →
      IsNextImage halves bytes (durable_world core) (core.before + core.durable) core.generation (fresh core)
  next_image halves bytes rest is = record {
    rests = rest;
    saved = is.saved;
    text = sealing_text core bytes is;
    good = is.good;
    means = is.means ∙ (λ i. Whole (sym (all_world core) i) (sym (all_count core within) i));
    has_generation = is.has_generation;
  }

  -- once it is, the old store is there or the new one
  pub leaves_sealed : (old new : Halves D G) → LeavesOnly G.moment G.since (disk_of old) (disk_of new) (stores_fresh core) → LeavesOnly G.moment G.since (disk_of old) (disk_of new) (HasOldOrSealed core)
  leaves_sealed old new leaves = weaker G.moment G.since (disk_of old) (disk_of new) (stores_fresh core) (HasOldOrSealed core) leaves (has_sealed core within)

  -- and so the durable events are kept
  pub seal_keeps : (old new : Halves D G) → LeavesOnly G.moment G.since (disk_of old) (disk_of new) (stores_fresh core) → LeavesOnly G.moment G.since (disk_of old) (disk_of new) (keeps_durable core)
  seal_keeps old new leaves =
      leaves_durable {G = G} core legal within old new
      (weaker G.moment G.since (disk_of old) (disk_of new) (stores_fresh core) (Keeps (durable_world core) (core.before + core.durable) (fresh core) 0) leaves
      (image_keeps (durable_world core) (core.before + core.durable) core.generation (fresh core)))

  -- where nothing is written, the store is as it was
  pub rests_sealed : (halves : Halves D G) → G.honest (disk_of halves) → is_halted halves ≡ false → IsAtRest core halves → (o : CrashBytes) → MayLeave (G.file (disk_of halves)) o → HasOldOrSealed core o
  rests_sealed halves honest going rest o left = inl (rest_stores halves (durable_world core) (core.before + core.durable) core.generation honest going rest o left)

  -- afterwards the halves are at rest with all events
  pub sealed_rest : (log_end : ℕ) (halves : Halves D G) → Rests halves (world (durable_world core) (fresh core)) (core.before + core.durable + length (fresh core)) (core.generation + 1) → IsAtRest (sealed_at core log_end) halves
  sealed_rest log_end halves rests =
      let same : world (durable_world core) (fresh core) ≡ world core.opening (take (length core.history) core.history) =
      all_world core ∙ ap (world core.opening) (sym (take_all (length core.history) core.history (omega arith))) in
      subst (λ (n : ℕ). Rests {G = G} halves (world core.opening (take (length core.history) core.history)) n (core.generation + 1)) (all_count core within)
      (subst (λ (v : World). Rests {G = G} halves v (core.before + core.durable + length (fresh core)) (core.generation + 1)) same rests)

  pub sealed_kept : (log_end : ℕ) (halves : Halves D G) → G.honest (disk_of halves) → is_halted halves ≡ false → IsAtRest (sealed_at core log_end) halves → IsKept (sealed_at core log_end) halves
  sealed_kept log_end halves honest going rest = record {
    now = λ o left. record {
      kept = length core.history;
      durable_kept = omega arith;
      none_invented = omega arith;
      generation = core.generation + 1;
      stores = rest_stores halves (world core.opening (take (length core.history) core.history)) (core.before + length core.history) (core.generation + 1) honest going rest o left;
    };
    rest = λ _. rest;
  }

  -- and the half that is taken is the image
  pub sealed_taken : (halves : Halves D G) (bytes : List ℕ) → IsSealing core bytes → length bytes < 2 ^ 31 → G.honest (disk_of halves) → is_halted halves ≡ false → text_of halves ≡ 1 ∷ before_gate bytes →
      Rests halves (world (durable_world core) (fresh core)) (core.before + core.durable + length (fresh core)) (core.generation + 1) → HasSealed G (sealed_at core (length bytes)) (disk_of halves)
  sealed_taken halves bytes is room honest going text rests =
      let long = sealing_length core bytes is in
      let same : is.saved ≡ rests.saved = said_once halves is.saved rests.saved (text ∙ sealing_text core bytes is) rests.text is.good rests.stands.good in
      record {
        half = taken_half halves;
        saved = rests.saved;
        is_taken = rest_taken halves (world (durable_world core) (fresh core)) (core.before + core.durable + length (fresh core)) (core.generation + 1) honest going rests;
        has_generation = rests.stands.has_generation;
        events = subst (λ (s : Saved). s.header.events ≡ core.before + length core.history) same (sealing_events core bytes is);
        no_batch = subst (λ (s : Saved). s.batches ≡ []) same is.no_batch;
        log_end = subst (λ (s : Saved). length bytes ≡ length (spell_half s)) same long;
        size = subst (λ (s : Saved). length (spell_half s) < 2 ^ 31) same (subst (λ n. n < 2 ^ 31) long room);
        means = rests.stands.means ∙ (λ i. Whole (all_world core i) (all_count core within i));
      }

  pub sealed_agrees : (log_end : ℕ) (old new : Halves D G) → GoesOn core old → Turned old new log_end → GoesOn (sealed_at core log_end) new
  sealed_agrees log_end old new before turned = record {
    going = turned.going;
    log_end = turned.at;
    generation = turned.generation ∙ ap (λ (n : ℕ). n + 1) before.generation;
  }
