-- Elements that are taken from their shelves, one by one.
use Rattle.std.proofs.Common.{◌≡◌, ℕ, ◌<◌, ◌==◌, true, false, cond, List, [], ◌∷◌, ◌++◌, length, refl, sym, ap, subst, ◌∙◌, append_assoc, arith}
use Rattle.std.specs.Prelude.{Option, Some, None, IfSome, is_some}
use Rattle.std.specs.List.{All}
use Rattle.std.specs.BTreeMap.{is_at}
use Rattle.std.specs.Map.{lookup, keys_of, remove_entry}
use Rattle.std.specs.Ordering.{eq_by_cmp}
use Rattle.std.specs.List.Sorted.{IsStrictlySortedBy}
use Rattle.std.proofs.lemmas.List.{append-nil, get_or-set_same, get_or-set_other, length-set, map-append}
use Rattle.std.proofs.lemmas.List.Elements.{All-set}
use Rattle.std.proofs.lemmas.Map.Keys.{IsDistinct-from_sorted, IsDistinct-head}
use Rattle.std.proofs.lemmas.Map.Views.{exact_unsigned_eq, tells_apart}
use Rattle.std.proofs.lemmas.Bool.{eqb-false}
use Rattle.charmlet_model.specs.declared.names.Elem.{Elem}
use Rattle.charmlet_model.specs.declared.state.Record.{Record}
use Rattle.charmlet_model.specs.declared.state.Resident.{Resident}
use Rattle.charmlet_model.specs.declared.state.State.{State}
use Rattle.charmlet_model.specs.Names.{elem_cmp}
use Rattle.charmlet_model.specs.Core.{present}
use Rattle.charmlet_model.specs.Shelves.{record_in, records_of}
use Rattle.charmlet_model.specs.World.{World, record_of}
use Rattle.charmlet_model.proofs.Maps.{absent, elem_exact, tied_elem}
use Rattle.charmlet_history.specs.declared.history.History.{History}
use Rattle.charmlet_history.specs.Kept.{IsConsistent, core_in}
use Rattle.charmlet_shelf.specs.Shelf.{View}
use Rattle.charmlet_migrate.specs.Copying.{empty_shelf, shelf_at}
use Rattle.charmlet_migrate.specs.Moving.{IsIdle, ShowsPresent}
use Rattle.charmlet_migrate.proofs.Shelves.{idle_at, stands_here}
use Rattle.charmlet_store.specs.Dismantled.{IsOnShelf, standing, without}

abbrev pub Rising : {X : Type 0} → List (Elem × X) → Type 0
Rising es = IsStrictlySortedBy elem_cmp (keys_of es)

-- what is found of an element
abbrev pub at : {X : Type 0} → List (Elem × X) → Elem → Option X
at es x = lookup (is_at (elem_cmp x)) es

-- an element stands on a shelf with this record
abbrev pub StandsAt : List View → Elem → ℕ → Record → Type 0
StandsAt shelves x processor r = (processor < length shelves) × (at (shelf_at shelves processor).records x ≡ Some r)

-- each element with a place stands there, with its record
abbrev pub AllStand : List View → World → List (Elem × ℕ) → Type 0
AllStand shelves w places = (x : Elem) (processor : ℕ) → at places x ≡ Some processor → StandsAt shelves x processor (record_of w x)

-- what has come into the list of residents, and what is left on the shelves
pub record IsTaken {C : Type 0} (state : C → State) (w : World) (total left : List (Elem × ℕ)) (shelves : List View) (residents : List (Elem × Resident C)) : Type 0 where
  pub idle : All IsIdle shelves
  pub rising : Rising left
  pub stand : AllStand shelves w left
  pub shown : records_of state residents ++ standing w left ≡ standing w total

-- ---- the first place

module _ {X : Type 0} (e : Elem × X) (es : List (Elem × X)) (rising : Rising (e ∷ es)) where
  pub rest_rises : Rising es
  unfolding IsStrictlySortedBy
  rest_rises = rising.1

  -- the others are of other elements
  none_later : at es e.0 ≡ None
  none_later = absent (is_at (elem_cmp e.0)) es (IsDistinct-head (eq_by_cmp elem_cmp) e.0 (keys_of es) (IsDistinct-from_sorted elem_cmp (keys_of (e ∷ es)) rising))

  pub is_other : (y : Elem) (v : X) → at es y ≡ Some v → eq_by_cmp elem_cmp y e.0 ≡ false
  is_other y v found =
      elim (eq_by_cmp elem_cmp y e.0) as (λ b. eq_by_cmp elem_cmp y e.0 ≡ b → b ≡ false) [
        | true ↦ λ same. let none : None ≡ Some v = sym none_later ∙ ap (at es) (sym (tells_apart elem_exact y e.0 same)) ∙ found in cc
        | false ↦ λ _. refl
      ] refl

-- another element's record stays
found_without : {X : Type 0} (y x : Elem) → eq_by_cmp elem_cmp y x ≡ false → (es : List (Elem × X)) → at (remove_entry (is_at (elem_cmp x)) es) y ≡ at es y
found_without y x other [] = refl
found_without y x other (e ∷ es) =
    elim (eq_by_cmp elem_cmp x e.0) as (λ b. eq_by_cmp elem_cmp x e.0 ≡ b → at (cond b es (e ∷ remove_entry (is_at (elem_cmp x)) es)) y ≡ at (e ∷ es) y) [
      | true ↦ λ same.
          let apart : eq_by_cmp elem_cmp y e.0 ≡ false = ap (eq_by_cmp elem_cmp y) (sym (tells_apart elem_exact x e.0 same)) ∙ other in
          sym (ap (λ b. cond b (Some e.1) (at es y)) apart)
      | false ↦ λ _. ap (cond (eq_by_cmp elem_cmp y e.0) (Some e.1)) (found_without y x other es)
    ] refl

module _ (shelves : List View) (w : World) (x : Elem) (p : ℕ) (rest : List (Elem × ℕ)) (rising : Rising ((x, p) ∷ rest)) (stand : AllStand shelves w ((x, p) ∷ rest)) where
  pub first_stands : StandsAt shelves x p (record_of w x)
  first_stands = stand x p (ap (λ b. cond b (Some p) (at rest x)) (tied_elem x))

  pub first_on_shelf : IsOnShelf shelves x p
  first_on_shelf = record { within = first_stands.0; here = ap is_some first_stands.1 }

  -- the shelf without it
  abbrev now : View
  now = record (shelf_at shelves p) { records = remove_entry (is_at (elem_cmp x)) (shelf_at shelves p).records }

  -- the others stand where they stood
  others_stand : AllStand (without shelves x p) w rest
  others_stand y q found =
      let other = is_other (x, p) rest rising y q found in
      let before : StandsAt shelves y q (record_of w y) = stand y q (ap (λ b. cond b (Some p) (at rest y)) other ∙ found) in
      let same = length-set shelves p now in (
        omega (arith, before.0),
        elim (p == q) as (λ b. (p == q) ≡ b → at (shelf_at (without shelves x p) q).records y ≡ at (shelf_at shelves q).records y) [
          | true ↦ λ here.
              subst (λ q. at (shelf_at (without shelves x p) q).records y ≡ at (shelf_at shelves q).records y) (exact_unsigned_eq p q here)
              (ap (λ (v : View). at v.records y) (get_or-set_same shelves p now (empty_shelf 0) first_stands.0) ∙ found_without y x other (shelf_at shelves p).records)
          | false ↦ λ apart.
              let not_same : q ≡ p → ⊥ = λ same. eqb-false p q apart (sym same) in
              ap (λ (v : View). at v.records y) (get_or-set_other shelves p q now (empty_shelf 0) not_same)
        ] refl
            ∙ before.1,
      )

  pub still_idle : All IsIdle shelves → All IsIdle (without shelves x p)
  still_idle idle = All-set IsIdle shelves p now (idle_at shelves p first_stands.0 idle) idle

-- ---- one more element

module _ {C : Type 0} (state : C → State) (w : World) (total left : List (Elem × ℕ)) (shelves : List View) (residents : List (Elem × Resident C)) (taken : IsTaken state w total left shelves residents) where
  pub all_taken : left ≡ [] → records_of state residents ≡ standing w total
  all_taken none = sym (append-nil (records_of state residents)) ∙ ap (λ ps. records_of state residents ++ standing w ps) (sym none) ∙ taken.shown

  module _ (x : Elem) (p : ℕ) (rest : List (Elem × ℕ)) (is : left ≡ (x, p) ∷ rest) where
    rising_is : Rising ((x, p) ∷ rest)
    rising_is = subst Rising is taken.rising

    stand_is : AllStand shelves w ((x, p) ∷ rest)
    stand_is = subst (AllStand shelves w) is taken.stand

    pub next_on_shelf : IsOnShelf shelves x p
    next_on_shelf = first_on_shelf shelves w x p rest rising_is stand_is

    module _ (resident : Resident C) (its : at (shelf_at shelves p).records x ≡ Some (record_in state resident)) where
      its_record : record_in state resident ≡ record_of w x
      its_record = let both : Some (record_in state resident) ≡ Some (record_of w x) = sym its ∙ (first_stands shelves w x p rest rising_is stand_is).1 in cc

      abbrev with_one : Record → List (Elem × Record)
      with_one r = records_of state residents ++ (x, r) ∷ standing w rest

      one_more : records_of state (residents ++ (x, resident) ∷ []) ++ standing w rest ≡ standing w total
      one_more =
          ap (λ (rs : List (Elem × Record)). rs ++ standing w rest) (map-append (λ (e : Elem × Resident C). (e.0, record_in state e.1)) residents ((x, resident) ∷ []))
          ∙ append_assoc (records_of state residents) ((x, record_in state resident) ∷ []) (standing w rest)
          ∙ ap with_one its_record
          ∙ ap (λ ps. records_of state residents ++ standing w ps) (sym is)
          ∙ taken.shown

      pub next_taken : (next : List View) (more : List (Elem × Resident C)) → next ≡ without shelves x p → more ≡ residents ++ (x, resident) ∷ [] → IsTaken state w total rest next more
      next_taken next more next_is more_is =
          subst (λ vs. IsTaken state w total rest vs more) (sym next_is)
          (subst (IsTaken state w total rest (without shelves x p)) (sym more_is) (record {
            idle = still_idle shelves w x p rest rising_is stand_is taken.idle;
            rising = rest_rises (x, p) rest rising_is;
            stand = others_stand shelves w x p rest rising_is stand_is;
            shown = one_more;
          }))

-- ---- before the first

pub none_taken : {C : Type 0} (state : C → State) (history : History) (shelves : List View) → IsConsistent history → length shelves ≡ (core_in history).processors → All IsIdle shelves → ShowsPresent shelves history →
    (residents : List (Elem × Resident C)) → residents ≡ [] → IsTaken state (present (core_in history)) (core_in history).places (core_in history).places shelves residents
none_taken state history shelves consistent count idle shows residents none =
    let core = core_in history in
    record {
      idle = idle;
      rising = consistent.sound.rising_places;
      stand = λ x p place.
          let less : p < core.processors = subst (λ o. IfSome o (λ q. q < core.processors)) place (consistent.sound.placed x).on_processor in
          (omega arith, stands_here shelves core.places (present core) shows x p place);
      shown = ap (λ es. records_of state es ++ standing (present core) core.places) none;
    }
