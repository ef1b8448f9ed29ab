-- What a row is to its element.
use Rattle.std.proofs.Common.{◌≡◌, ℕ, ◌+◌, ◌<◌, suc, Bool, true, false, cond, not, nat_lt, List, [], ◌∷◌, ◌++◌, length, refl, sym, ap, subst, ◌∙◌, if◌then◌else◌, slice_get, rules}
use Rattle.std.proofs.Common.{arith}
use Rattle.std.proofs.lemmas.Bool.{ltb-true}
use Rattle.std.specs.Prelude.{Option, Some, None, IfSome, position, unwrap_or, is_some}
use Rattle.std.specs.List.{AllByRecursion, IsDistinct, position_or_len}
use Rattle.std.specs.Map.{keys_of, lookup}
use Rattle.indexmap.specs.IndexMap.{insert_entry, set_value_at}
use Rattle.charmlet_model.specs.declared.names.Elem.{Elem}
use Rattle.charmlet_model.specs.Names.{same_elem}
use Rattle.charmlet_model.proofs.Maps.{same_from_test}
use Rattle.charmlet_world.specs.declared.element.Element.{Element}
use Rattle.charmlet_world.specs.Standing.{element_in, no_element, with_row}

abbrev pub Rows : Type 0
Rows = List (Elem × Element)

pub same_other_way : (a b : Elem) → same_elem a b ≡ same_elem b a
same_other_way a b = by (same_elem a b) refl (same_elem b a) refl
  where
    by : (t : Bool) → same_elem a b ≡ t → (u : Bool) → same_elem b a ≡ u → same_elem a b ≡ same_elem b a
    by true h u k = let p = same_from_test a b h in λ i. same_elem (p i) (sym p i)
    by false h true k = let p = same_from_test b a k in λ i. same_elem (sym p i) (p i)
    by false h false k = h ∙ sym k

-- the first row that passes
at_first : {V : Type 0} (d : V) (x : Elem) (es : List (Elem × V)) → position_or_len (same_elem x) (keys_of es) < length (keys_of es) → slice_get es (position_or_len (same_elem x) (keys_of es)) ≡ Some (x, unwrap_or (lookup (same_elem x) es) d)
at_first d x [] h = absurd (omega arith)
at_first d x (e ∷ es) h =
    let p = position_or_len (same_elem x) (keys_of es) in
    elim (same_elem x e.0) as (λ b. same_elem x e.0 ≡ b → cond (not b) (1 + p) 0 < length (keys_of (e ∷ es)) → slice_get (e ∷ es) (cond (not b) (1 + p) 0) ≡ Some (x, unwrap_or (if b then Some e.1 else lookup (same_elem x) es) d)) [
      | true ↦ λ same _. let key = same_from_test x e.0 same in λ j. Some (sym key j, e.1)
      | false ↦ λ _ less. let step : suc p ≡ 1 + p = omega arith in subst (λ k. slice_get (e ∷ es) k ≡ Some (x, unwrap_or (lookup (same_elem x) es) d)) step (at_first d x es (omega arith))
    ] refl h

first_place : (p n i : ℕ) → cond (nat_lt p n) (Some p) None ≡ Some i → (p ≡ i) × (p < n)
first_place p n i is =
    elim (nat_lt p n) as (λ b. nat_lt p n ≡ b → cond b (Some p) None ≡ Some i → (p ≡ i) × (p < n)) [
      | true ↦ λ less here. ((let same : p ≡ i = cc in same), ltb-true p n less)
      | false ↦ λ _ none. absurd (let no : ⊥ = cc in no)
    ] refl is

-- where an element is found, it and its row are
pub position_there : {V : Type 0} (d : V) (x : Elem) (es : List (Elem × V)) (i : ℕ) → position (same_elem x) (keys_of es) ≡ Some i → slice_get es i ≡ Some (x, unwrap_or (lookup (same_elem x) es) d)
position_there d x es i is =
    let first = first_place (position_or_len (same_elem x) (keys_of es)) (length (keys_of es)) i is in
    subst (λ k. slice_get es k ≡ Some (x, unwrap_or (lookup (same_elem x) es) d)) first.0 (at_first d x es first.1)

pub at_position : (x : Elem) (es : Rows) (i : ℕ) → position (same_elem x) (keys_of es) ≡ Some i → slice_get es i ≡ Some (x, element_in es x)
at_position x es i is = position_there no_element x es i is

-- an element that has no row gets one at the end
pub with_new_row : (x : Elem) (es : Rows) → lookup (same_elem x) es ≡ None → es ++ (x, no_element) ∷ [] ≡ with_row es x
with_new_row x es none = rw none refl

pub with_same_row : (x : Elem) (es : Rows) → is_some (lookup (same_elem x) es) ≡ true → es ≡ with_row es x
with_same_row x es there = rw there refl

-- the element of a row is not one that no row has
pub apart_at : {V : Type 0} (x z : Elem) (es : List (Elem × V)) (i : ℕ) (e : V) → AllByRecursion (λ k. same_elem z k ≡ false) (keys_of es) → slice_get es i ≡ Some (x, e) → same_elem z x ≡ false
apart_at x z [] i e h at = absurd (let no : ⊥ = cc in no)
apart_at x z (f ∷ es) Prim.Native.Nat.zero e h at = let key : f.0 ≡ x = λ j. (unwrap_or (at j) f).0 in subst (λ k. same_elem z k ≡ false) key h.0
apart_at x z (f ∷ es) (suc i) e h at = apart_at x z es i e h.1 at

-- and so is it where a table finds it
pub is_found_by : {V : Type 0} (d : V) (x : Elem) (es : List (Elem × V)) (r : Option ℕ) → r ≡ position (same_elem x) (keys_of es) → IfSome r (λ i. slice_get es i ≡ Some (x, unwrap_or (lookup (same_elem x) es) d))
is_found_by d x es None is = search rules
is_found_by d x es (Some i) is = position_there d x es i (sym is)

pub is_found : (x : Elem) (es : Rows) (r : Option ℕ) → r ≡ position (same_elem x) (keys_of es) → IfSome r (λ i. slice_get es i ≡ Some (x, element_in es x))
is_found x es None is = search rules
is_found x es (Some i) is = at_position x es i (sym is)

-- a change by index is a change of that element, and of no other
pub changed : {V : Type 0} (x y : Elem) (e w : V) (es : List (Elem × V)) (i : ℕ) → IsDistinct same_elem (keys_of es) → slice_get es i ≡ Some (x, e)
    → lookup (same_elem y) (set_value_at es i w) ≡ (if same_elem x y then Some w else lookup (same_elem y) es)
unfolding IsDistinct
changed x y e w [] i h at = absurd (let no : ⊥ = cc in no)
changed x y e w (f ∷ es) Prim.Native.Nat.zero h at =
    let key : f.0 ≡ x = λ j. (unwrap_or (at j) f).0 in
    let turned : same_elem y f.0 ≡ same_elem x y = ap (same_elem y) key ∙ same_other_way y x in
    rw turned (elim (same_elem x y) as (λ b. (if b then Some w else lookup (same_elem y) es) ≡ (if b then Some w else (if b then Some f.1 else lookup (same_elem y) es))) [ true ↦ refl | false ↦ refl ])
changed x y e w (f ∷ es) (suc i) h at =
    elim (same_elem y f.0) as (λ b. same_elem y f.0 ≡ b → (if b then Some f.1 else lookup (same_elem y) (set_value_at es i w)) ≡ (if same_elem x y then Some w else (if b then Some f.1 else lookup (same_elem y) es))) [
      | true ↦ λ same.
          let other : same_elem x y ≡ false = ap (same_elem x) (same_from_test y f.0 same) ∙ same_other_way x f.0 ∙ apart_at x f.0 es i e h.0 at in
          rw other refl
      | false ↦ λ _. changed x y e w es i h.1 at
    ] refl

pub changed_element : (x y : Elem) (e w : Element) (es : Rows) (i : ℕ) → IsDistinct same_elem (keys_of es) → slice_get es i ≡ Some (x, e)
    → element_in (set_value_at es i w) y ≡ (if same_elem x y then w else element_in es y)
changed_element x y e w es i h at =
    ap (λ o. unwrap_or o no_element) (changed x y e w es i h at)
    ∙ (elim (same_elem x y) as (λ b. unwrap_or (if b then Some w else lookup (same_elem y) es) no_element ≡ (if b then w else element_in es y)) [ true ↦ refl | false ↦ refl ])

-- ---- what is inserted by its element

module _ {V : Type 0} (x : Elem) (v : V) where
  -- it stands where the element stood, or comes
  pub inserted_at : (es : List (Elem × V)) → slice_get (insert_entry same_elem es x v) (position_or_len (same_elem x) (keys_of es)) ≡ Some (x, v)
  inserted_at [] = refl
  inserted_at (e ∷ es) =
      let p = position_or_len (same_elem x) (keys_of es) in
      elim (same_elem x e.0) as (λ b. same_elem x e.0 ≡ b → slice_get (if b then (e.0, v) ∷ es else e ∷ insert_entry same_elem es x v) (cond (not b) (1 + p) 0) ≡ Some (x, v)) [
        | true ↦ λ same. let key = same_from_test x e.0 same in λ j. Some (sym key j, v)
        | false ↦ λ _. let step : suc p ≡ 1 + p = omega arith in subst (λ k. slice_get (e ∷ insert_entry same_elem es x v) k ≡ Some (x, v)) step (inserted_at es)
      ] refl

  -- what the element had is there
  pub stood_at : (w : V) (es : List (Elem × V)) → lookup (same_elem x) es ≡ Some w → slice_get es (position_or_len (same_elem x) (keys_of es)) ≡ Some (x, w)
  stood_at w [] h = cc
  stood_at w (e ∷ es) h =
      let p = position_or_len (same_elem x) (keys_of es) in
      elim (same_elem x e.0) as (λ b. same_elem x e.0 ≡ b → (if b then Some e.1 else lookup (same_elem x) es) ≡ Some w → slice_get (e ∷ es) (cond (not b) (1 + p) 0) ≡ Some (x, w)) [
        | true ↦ λ same here. let key = same_from_test x e.0 same in let is : e.1 ≡ w = cc in λ j. Some (sym key j, is j)
        | false ↦ λ _ later. let step : suc p ≡ 1 + p = omega arith in subst (λ k. slice_get (e ∷ es) k ≡ Some (x, w)) step (stood_at w es later)
      ] refl h

  -- and once it comes back, all is as before
  pub put_back : (w : V) (es : List (Elem × V)) → lookup (same_elem x) es ≡ Some w → set_value_at (insert_entry same_elem es x v) (position_or_len (same_elem x) (keys_of es)) w ≡ es
  put_back w [] h = cc
  put_back w (e ∷ es) h =
      let p = position_or_len (same_elem x) (keys_of es) in
      elim (same_elem x e.0) as (λ b. (if b then Some e.1 else lookup (same_elem x) es) ≡ Some w → set_value_at (if b then (e.0, v) ∷ es else e ∷ insert_entry same_elem es x v) (cond (not b) (1 + p) 0) w ≡ e ∷ es) [
        | true ↦ λ here. let is : e.1 ≡ w = cc in ap (λ u. (e.0, u) ∷ es) (sym is)
        | false ↦ λ later. let step : suc p ≡ 1 + p = omega arith in subst (λ k. set_value_at (e ∷ insert_entry same_elem es x v) k w ≡ e ∷ es) step (ap (λ fs. e ∷ fs) (put_back w es later))
      ] h
