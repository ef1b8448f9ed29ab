-- What shelves show, and how many objects are on them, once an element was carried from one to
-- another.
use Rattle.std.proofs.Common.{◌≡◌, ℕ, ◌+◌, ◌==◌, true, false, cond, List, refl, sym, ap, subst, ◌∙◌, arith}
use Rattle.std.specs.Prelude.{Option, Some, None, option_map, unwrap_or}
use Rattle.std.specs.BTreeMap.{insert_entry, is_at}
use Rattle.std.specs.Map.{lookup, remove_entry}
use Rattle.std.specs.Ordering.{eq_by_cmp}
use Rattle.std.proofs.lemmas.Map.Entries.{sum_by-insert_entry, sum_by-remove_entry}
use Rattle.std.proofs.lemmas.Bool.{ne_eqb}
use Rattle.charmlet_model.specs.declared.names.Elem.{Elem}
use Rattle.charmlet_model.specs.declared.kind.Kind.{Kind}
use Rattle.charmlet_model.specs.declared.state.Record.{Record}
use Rattle.charmlet_model.specs.Names.{elem_cmp}
use Rattle.charmlet_model.specs.World.{World, record_of}
use Rattle.charmlet_model.specs.Shelves.{if_here, is_there_as, there_in}
use Rattle.charmlet_model.proofs.Maps.{elem_total, lookup-insert_entry, rising-insert_entry, same_elem-is, same_from_test, tied_elem}
use Rattle.charmlet_model.proofs.Removals.{lookup-removed, rising-removed}
use Rattle.charmlet_delivery.specs.Workplace.{ShowsOn}
use Rattle.charmlet_delivery.proofs.Places.{if_here_same}

-- what is found of an element
abbrev at : {X : Type 0} → List (Elem × X) → Elem → Option X
at entries x = lookup (is_at (elem_cmp x)) entries

-- the entries with one of the element, and with none
abbrev pub put : {X : Type 0} → List (Elem × X) → Elem → X → List (Elem × X)
put entries x y = insert_entry elem_cmp entries x y

abbrev pub taken : {X : Type 0} → List (Elem × X) → Elem → List (Elem × X)
taken entries x = remove_entry (is_at (elem_cmp x)) entries

-- of an element that stands elsewhere a shelf shows nothing
shown_elsewhere : (p k : ℕ) (r : Record) → (p == k) ≡ false → if_here (Some p) k r ≡ None
shown_elsewhere p k r apart = ap (λ b. cond b (Some r) None) apart

-- what holds of the element and of the others holds of all
by_elem : (x : Elem) (P : Elem → Type 0) → P x → ((y : Elem) → eq_by_cmp elem_cmp y x ≡ false → P y) → (y : Elem) → P y
by_elem x P own others y =
    elim (eq_by_cmp elem_cmp y x) as (λ b. eq_by_cmp elem_cmp y x ≡ b → P y) [
      | true ↦ λ same. subst P (sym (same_from_test y x (same_elem-is y x ∙ same))) own
      | false ↦ λ other. others y other
    ] refl

module _ (places : List (Elem × ℕ)) (w : World) (x : Elem) (p : ℕ) (place : at places x ≡ Some p) where
  -- it stands on the shelf of its place, and on no other
  pub stands : (records : List (Elem × Record)) → ShowsOn p records places w → at records x ≡ Some (record_of w x)
  stands records shows = shows.shown x ∙ ap (λ o. if_here o p (record_of w x)) place ∙ if_here_same p (record_of w x)

  pub stands_not : (k : ℕ) → (p ≡ k → ⊥) → (records : List (Elem × Record)) → ShowsOn k records places w → at records x ≡ None
  stands_not k apart records shows = shows.shown x ∙ ap (λ o. if_here o k (record_of w x)) place ∙ shown_elsewhere p k (record_of w x) (ne_eqb p k apart)

  -- and from now on on another one's
  module _ (q : ℕ) where
    place_now : (y : Elem) → at (put places x q) y ≡ cond (eq_by_cmp elem_cmp y x) (Some q) (at places y)
    place_now y = lookup-insert_entry elem_cmp elem_total y x q places

    -- what a shelf shows of an element
    abbrev shown_of : List (Elem × ℕ) → ℕ → Elem → Option Record
    shown_of places k y = if_here (at places y) k (record_of w y)

    its_shown : (k : ℕ) → shown_of (put places x q) k x ≡ if_here (Some q) k (record_of w x)
    its_shown k = ap (λ o. if_here o k (record_of w x)) (place_now x ∙ ap (λ b. cond b (Some q) (at places x)) (tied_elem x))

    others_shown : (k : ℕ) (y : Elem) → eq_by_cmp elem_cmp y x ≡ false → shown_of (put places x q) k y ≡ shown_of places k y
    others_shown k y other = ap (λ o. if_here o k (record_of w y)) (place_now y ∙ ap (λ b. cond b (Some q) (at places y)) other)

    -- the shelves but for the two show what they showed
    pub shown_as_before : (k : ℕ) → (p == k) ≡ false → (q == k) ≡ false → (y : Elem) → shown_of (put places x q) k y ≡ shown_of places k y
    shown_as_before k not_p not_q = by_elem x (λ y. shown_of (put places x q) k y ≡ shown_of places k y)
        (its_shown k ∙ shown_elsewhere q k (record_of w x) not_q ∙ sym (shown_elsewhere p k (record_of w x) not_p) ∙ ap (λ o. if_here o k (record_of w x)) (sym place))
        (others_shown k)

    -- the one that it leaves, without it
    pub shows_left : (p ≡ q → ⊥) → (records : List (Elem × Record)) → ShowsOn p records places w → ShowsOn p (taken records x) (put places x q) w
    shows_left apart records shows = record {
      rising = rising-removed elem_cmp (is_at (elem_cmp x)) records shows.rising;
      shown = by_elem x (λ y. at (taken records x) y ≡ shown_of (put places x q) p y)
          (found x ∙ ap (λ b. cond b None (at records x)) (tied_elem x) ∙ sym (its_shown p ∙ shown_elsewhere q p (record_of w x) (ne_eqb q p (λ same. apart (sym same)))))
          (λ y other. found y ∙ ap (λ b. cond b None (at records y)) other ∙ shows.shown y ∙ sym (others_shown p y other));
    }
      where
        found : (y : Elem) → at (taken records x) y ≡ cond (eq_by_cmp elem_cmp y x) None (at records y)
        found y = lookup-removed elem_total y x records shows.rising

    -- the one to which it comes, with it
    pub shows_come : (records : List (Elem × Record)) → ShowsOn q records places w → ShowsOn q (put records x (record_of w x)) (put places x q) w
    shows_come records shows = record {
      rising = rising-insert_entry elem_cmp elem_total x (record_of w x) records shows.rising;
      shown = by_elem x (λ y. at (put records x (record_of w x)) y ≡ shown_of (put places x q) q y)
          (found x ∙ ap (λ b. cond b (Some (record_of w x)) (at records x)) (tied_elem x) ∙ sym (its_shown q ∙ if_here_same q (record_of w x)))
          (λ y other. found y ∙ ap (λ b. cond b (Some (record_of w x)) (at records y)) other ∙ shows.shown y ∙ sym (others_shown q y other));
    }
      where
        found : (y : Elem) → at (put records x (record_of w x)) y ≡ cond (eq_by_cmp elem_cmp y x) (Some (record_of w x)) (at records y)
        found y = lookup-insert_entry elem_cmp elem_total y x (record_of w x) records

    -- there are as many objects on the two as before
    module _ (kind : Kind) where
      abbrev weight : Record → ℕ
      weight r = cond (is_there_as kind r.state) 1 0

      abbrev found_weight : Option Record → ℕ
      found_weight o = unwrap_or (option_map weight o) 0

      pub as_many : (p ≡ q → ⊥) → (old new : List (Elem × Record)) → ShowsOn p old places w → ShowsOn q new places w →
          there_in (taken old x) kind + there_in (put new x (record_of w x)) kind ≡ there_in old kind + there_in new kind
      as_many apart old new old_shows new_shows =
          let written = sum_by-insert_entry weight elem_total new x (record_of w x) new_shows.rising in
          let none : found_weight (at new x) ≡ 0 = ap found_weight (stands_not q apart new new_shows) in
          let gone = sum_by-remove_entry weight (is_at (elem_cmp x)) old in
          let found : found_weight (at old x) ≡ weight (record_of w x) = ap found_weight (stands old old_shows) in
          omega arith
