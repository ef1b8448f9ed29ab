-- What a move makes of what is kept.
use Rattle.std.proofs.Common.{◌≡◌, ℕ, ◌<◌, ◌==◌, Bool, true, false, cond, not, ◌||◌, List, [], ◌∷◌, ◌++◌, refl, sym, ap, subst, ◌∙◌}
use Rattle.std.proofs.lemmas.Bool.{lt-ltb, ltb-true}
use Rattle.std.specs.Prelude.{Option, Some, None, is_some, nat_lt, unwrap_or}
use Rattle.std.specs.Ordering.{eq_by_cmp, nat_cmp}
use Rattle.std.specs.BTreeMap.{insert_entry, is_at}
use Rattle.std.specs.Map.{lookup}
use Rattle.std.proofs.lemmas.Map.Views.{tells_apart}
use Rattle.charmlet_model.specs.declared.names.Elem.{Elem}
use Rattle.charmlet_model.specs.declared.kind_version.KindVersion.{KindVersion}
use Rattle.charmlet_model.specs.declared.refusal.Refusal.TheVariants as refusals
use Rattle.charmlet_model.specs.Names.{elem_cmp}
use Rattle.charmlet_model.specs.World.{version_of_array, record_of}
use Rattle.charmlet_model.specs.Core.{Core, Check, When, MayLackMemory, Move, home, present, lacks_blank, checks, first_refusal, next_core, is_present, place_or_home}
use Rattle.charmlet_model.specs.Sound.{IsSound}
use Rattle.charmlet_model.proofs.Maps.{elem_total, elem_exact, rising-insert_entry}
use Rattle.charmlet_model.proofs.SoundLemmas.{step_sound}
use Rattle.charmlet_world.specs.declared.element.Element.{Element}
use Rattle.charmlet_history.specs.Kept.{Kept, IsConsistent, core_in, blank_of_move, place_or_home_in, plenty}
use Rattle.charmlet_world.specs.Seen.{IsCountedBy, element_at}
use Rattle.charmlet_history.specs.Delivered.{relocated}
use Rattle.charmlet_history.proofs.Assigning.{place_or_home_is, there_is}
use Rattle.charmlet_history.proofs.Orders.{is_done}
use Rattle.charmlet_history.proofs.Consistency.{manifest_is}
use Rattle.charmlet_world.proofs.Places.{element_at-insert, places_moved}

-- of a move to another processor, where the stock lacks nothing
abbrev pub away_order : Kept → ℕ → ℕ → List Check
away_order k place processor =
    When (is_some (lookup (is_at (nat_cmp place)) k.assigned) || is_some (lookup (is_at (nat_cmp processor)) k.assigned)) refusals.Uncommitted ∷ []

-- of a move, by what is kept
abbrev pub move_order : Kept → Elem → ℕ → List Check
move_order k x processor =
    When (not (nat_lt processor k.processors)) refusals.BadPes
    ∷ When (not (is_some (element_at k.elements x).place)) refusals.Absent
    ∷ cond (place_or_home_in k x == processor) [] (away_order k (place_or_home_in k x) processor)

away_passes : (busy : Bool) (wanted : Option KindVersion) →
    first_refusal (When busy refusals.Uncommitted ∷ (lacks_blank plenty wanted ++ MayLackMemory ∷ [])) ≡ first_refusal (When busy refusals.Uncommitted ∷ [])
away_passes true wanted = refl
away_passes false None = refl
away_passes false (Some kind) = refl

-- what comes first is the same
later : (away absent own : Bool) (a b : List Check) → first_refusal a ≡ first_refusal b →
    first_refusal (When away refusals.BadPes ∷ When absent refusals.Absent ∷ cond own [] a) ≡ first_refusal (When away refusals.BadPes ∷ When absent refusals.Absent ∷ cond own [] b)
later true absent own a b h = refl
later false true own a b h = refl
later false false true a b h = refl
later false false false a b h = h

module _ (k : Kept) (consistent : IsConsistent k) (x : Elem) (processor : ℕ) where
  abbrev core : Core
  core = core_in k

  abbrev order : Bool → ℕ → List Check
  order there place =
      When (not (nat_lt processor k.processors)) refusals.BadPes
      ∷ When (not there) refusals.Absent
      ∷ cond (place == processor) [] (When (is_some (lookup (is_at (nat_cmp place)) k.assigned) || is_some (lookup (is_at (nat_cmp processor)) k.assigned)) refusals.Uncommitted
      ∷ (lacks_blank plenty (version_of_array (present core) x.array) ++ MayLackMemory ∷ []))

  -- a halted store
  pub move_halted : k.halted ≡ true → first_refusal (checks core plenty (Move x processor)) ≡ Some refusals.Halted
  move_halted halted = ap (λ b. first_refusal (When b refusals.Halted ∷ When false refusals.Checkpointing ∷ order (is_present core x) (place_or_home core x))) halted

  pub move_order_is : k.halted ≡ false → first_refusal (checks core plenty (Move x processor)) ≡ first_refusal (move_order k x processor)
  move_order_is running =
      ap (λ b. first_refusal (When b refusals.Halted ∷ When false refusals.Checkpointing ∷ order (is_present core x) (place_or_home core x))) running ∙ (λ i. first_refusal (order (there_is k consistent x i) (place_or_home_is k consistent x i)))
      ∙ later (not (nat_lt processor k.processors)) (not (is_some (element_at k.elements x).place)) (place_or_home_in k x == processor) _ (away_order k (place_or_home_in k x) processor)
      (away_passes (is_some (lookup (is_at (nat_cmp (place_or_home_in k x))) k.assigned) || is_some (lookup (is_at (nat_cmp processor)) k.assigned)) (version_of_array (present core) x.array))

  -- ---- a move that can be

  module _ (can : first_refusal (checks core plenty (Move x processor)) ≡ None) where
    -- to its own processor
    pub stays_there : (place_or_home_in k x == processor) ≡ true → core ≡ next_core core (Move x processor)
    stays_there own = sym (ap (λ b. cond b core (record core { places = insert_entry elem_cmp core.places x processor })) (ap (λ p. p == processor) (place_or_home_is k consistent x) ∙ own))

    -- to another one
    module _ (away : (place_or_home_in k x == processor) ≡ false) where
      abbrev e : Element
      e = record (element_at k.elements x) { place = Some processor }

      abbrev new : Kept
      new = relocated k x processor

      pub moved_core : core_in new ≡ next_core core (Move x processor)
      moved_core =
          (λ i. record core { places = places_moved k.elements consistent.rising x e processor refl i })
          ∙ sym (ap (λ b. cond b core (record core { places = insert_entry elem_cmp core.places x processor })) (ap (λ p. p == processor) (place_or_home_is k consistent x) ∙ away))

      counts_stay : (y : Elem) → IsCountedBy (record_of (present core) y) (element_at new.elements y)
      counts_stay y =
          subst (IsCountedBy (record_of (present core) y)) (sym (element_at-insert k.elements x e y))
          (elim (eq_by_cmp elem_cmp y x) as (λ b. eq_by_cmp elem_cmp y x ≡ b → IsCountedBy (record_of (present core) y) (cond b e (element_at k.elements y))) [
            | true ↦ λ same.
                let counts = consistent.counts x in
                subst (λ z. IsCountedBy (record_of (present core) z) e) (sym (tells_apart elem_exact y x same)) (record { sent = counts.sent; received = counts.received })
            | false ↦ λ _. consistent.counts y
          ] refl)

      pub moved_consistent : IsConsistent new
      moved_consistent = record {
        sound = subst IsSound (sym moved_core) (step_sound core plenty (Move x processor) _ consistent.sound tt (is_done core plenty (Move x processor) refl can));
        rising = rising-insert_entry elem_cmp elem_total x e k.elements consistent.rising;
        counts = counts_stay;
        pending = consistent.pending;
        clients = consistent.clients;
        durable_rows = consistent.durable_rows;
        wal_buffer = consistent.wal_buffer;
        promised = consistent.promised;
      }

    -- it is there
    pub moves_there : is_some (element_at k.elements x).place ≡ true
    moves_there =
        there (nat_lt processor k.processors) (is_some (element_at k.elements x).place) (cond (place_or_home_in k x == processor) [] (away_order k (place_or_home_in k x) processor)) (sym (move_order_is (runs k.halted refl)) ∙ can)
      where
        runs : (b : Bool) → k.halted ≡ b → k.halted ≡ false
        runs false is = is
        runs true halted = absurd (let both : Some refusals.Halted ≡ None = sym (move_halted halted) ∙ can in let never : ⊥ = cc in never)

        there : (below it_is : Bool) (more : List Check) → first_refusal (When (not below) refusals.BadPes ∷ When (not it_is) refusals.Absent ∷ more) ≡ None → it_is ≡ true
        there true true more h = refl
        there true false more h = absurd (let never : ⊥ = cc in never)
        there false it_is more h = absurd (let never : ⊥ = cc in never)

    -- and the processor is one
    pub moves_within : processor < k.processors
    moves_within =
        below (nat_lt processor k.processors) refl (move_order_is (runs k.halted refl))
      where
        runs : (b : Bool) → k.halted ≡ b → k.halted ≡ false
        runs false is = is
        runs true halted = absurd (let both : Some refusals.Halted ≡ None = sym (move_halted halted) ∙ can in let never : ⊥ = cc in never)

        below : (b : Bool) → nat_lt processor k.processors ≡ b → first_refusal (checks core plenty (Move x processor)) ≡ first_refusal (move_order k x processor) → processor < k.processors
        below true e order = ltb-true processor k.processors e
        below false e order = absurd (let refused : first_refusal (move_order k x processor) ≡ Some refusals.BadPes = ap (λ b. first_refusal (When (not b) refusals.BadPes ∷ When (not (is_some (element_at k.elements x).place)) refusals.Absent ∷ cond (place_or_home_in k x == processor) [] (away_order k (place_or_home_in k x) processor))) e in let both : Some refusals.BadPes ≡ None = sym refused ∙ (sym order ∙ can) in let never : ⊥ = cc in never)

  -- ---- a test of a move

  module _ (running : k.halted ≡ false) (below : processor < k.processors) where
    abbrev tested : Bool → Bool → List Check → List Check
    tested here there more = When (not here) refusals.BadPes ∷ When (not there) refusals.Absent ∷ more

    pub absent_refused : (element_at k.elements x).place ≡ None → first_refusal (checks core plenty (Move x processor)) ≡ Some refusals.Absent
    absent_refused none =
        move_order_is running ∙ (λ i. first_refusal (tested (lt-ltb processor k.processors below i) (is_some (none i)) (cond (place_or_home_in k x == processor) [] (away_order k (place_or_home_in k x) processor))))

    module _ (place : ℕ) (is : (element_at k.elements x).place ≡ Some place) where
      it_is_there : place_or_home_in k x ≡ place
      it_is_there = ap (λ o. unwrap_or o (home x k.processors)) is

      pub order_there : first_refusal (checks core plenty (Move x processor)) ≡ first_refusal (cond (place == processor) [] (away_order k place processor))
      order_there =
          move_order_is running
          ∙ (λ i. first_refusal (tested (lt-ltb processor k.processors below i) (is_some (is i)) (cond (it_is_there i == processor) [] (away_order k (it_is_there i) processor))))

      pub blank_there : blank_of_move core x processor ≡ cond (place == processor) None (lookup (is_at (nat_cmp x.array)) k.opening.manifest)
      blank_there = λ i. cond ((place_or_home_is k consistent x ∙ it_is_there) i == processor) None (lookup (is_at (nat_cmp x.array)) (manifest_is k i))
