-- The residents in rising order of their elements.
use Rattle.std.proofs.Common.{◌≡◌, ℕ, ◌+◌, ◌<◌, suc, true, false, cond, not, nat_lt, List, [], ◌∷◌, ◌++◌, length, refl, sym, ap, subst, ◌∙◌, slice_get, arith}
use Rattle.std.proofs.lemmas.Bool.{ltb-true}
use Rattle.std.specs.Prelude.{Option, Some, None, IfSome, IsSome, is_some, position, unwrap_or, option_map, option_to_list, sum_by}
use Rattle.std.specs.BTreeMap.{insert_entry, is_at}
use Rattle.std.specs.Cmp.{IsEquivalence}
use Rattle.std.specs.List.{AllByRecursion, IsDistinct, position_or_len}
use Rattle.std.specs.List.Sorted.{IsStrictlySortedBy}
use Rattle.std.specs.Map.{keys_of, lookup, remove_entry, set_value, values_of}
use Rattle.std.specs.Ordering.{eq_by_cmp}
use Rattle.std.proofs.lemmas.Cmp.{eq_by_cmp_equiv}
use Rattle.std.proofs.lemmas.List.Sums.{sum_by-cons}
use Rattle.std.proofs.lemmas.Map.{keys-set_value, lookup-set_value}
use Rattle.std.proofs.lemmas.Map.Entries.{sum_by-insert_entry}
use Rattle.indexmap.specs.IndexMap.{IndexMap, IsUnique, Updates, set_value_at}
use Rattle.indexmap.proofs.CallerLemmas.{updates-with_value_at}
use Rattle.charmlet_model.specs.declared.names.Elem.{Elem}
use Rattle.charmlet_model.specs.Names.{elem_cmp, same_elem}
use Rattle.charmlet_model.proofs.Maps.{absent, elem_total, same_elem-is, same_from_test, lookup-insert_entry, rising-insert_entry}
use Rattle.charmlet_model.proofs.Removals.{lookup-removed, rising-removed}
use Rattle.charmlet_shelf.specs.Risen.{StandsAt, risen}
use Rattle.charmlet_shelf.proofs.Records.{Rising, alike, at}

-- equality of elements, as a table tests it
pub same_laws : IsEquivalence same_elem
same_laws = subst IsEquivalence (sym (λ i. λ a b. same_elem-is a b i)) (eq_by_cmp_equiv elem_total)

turned : (x q : Elem) → same_elem x q ≡ eq_by_cmp elem_cmp q x
turned x q = same_elem-is x q ∙ (eq_by_cmp_equiv elem_total).symm x q

pub none_from_test : {A : Type 0} (o : Option A) → is_some o ≡ false → o ≡ None
none_from_test None h = refl
none_from_test (Some v) h = absurd (let no : ⊥ = cc in no)

first_place : (p n i : ℕ) → cond (nat_lt p n) (Some p) None ≡ Some i → (p ≡ i) × (p < n)
first_place p n i is =
    elim (nat_lt p n) as (λ b. nat_lt p n ≡ b → cond b (Some p) None ≡ Some i → (p ≡ i) × (p < n)) [
      | true ↦ λ less here. ((let same : p ≡ i = cc in same), ltb-true p n less)
      | false ↦ λ _ none. absurd (let no : ⊥ = cc in no)
    ] refl is

module _ {X : Type 0} where
  pub rising_always : (es : List (Elem × X)) → Rising (risen es)
  unfolding IsStrictlySortedBy
  rising_always [] = tt
  rising_always (e ∷ es) = rising-insert_entry elem_cmp elem_total e.0 e.1 (risen es) (rising_always es)

  -- what is found in rising order is what is found in the table
  pub found_risen : (q : Elem) (es : List (Elem × X)) → at (risen es) q ≡ lookup (same_elem q) es
  found_risen q [] = refl
  found_risen q (e ∷ es) =
      lookup-insert_entry elem_cmp elem_total q e.0 e.1 (risen es)
      ∙ (λ i. cond (sym (same_elem-is q e.0) i) (Some e.1) (found_risen q es i))

  -- what is found after a change at one element
  abbrev pub Changes : List (Elem × X) → List (Elem × X) → Elem → Option X → Type 0
  Changes es fs x w = (q : Elem) → lookup (same_elem q) fs ≡ cond (same_elem x q) w (lookup (same_elem q) es)

  changes : (es fs : List (Elem × X)) (x : Elem) (w : Option X) → Changes es fs x w → (q : Elem) → at (risen fs) q ≡ cond (eq_by_cmp elem_cmp q x) w (at (risen es) q)
  changes es fs x w same q = found_risen q fs ∙ same q ∙ (λ i. cond (turned x q i) w (sym (found_risen q es) i))

  -- an entry comes to its place
  pub risen_put : (es fs : List (Elem × X)) (x : Elem) (w : X) → Changes es fs x (Some w) → risen fs ≡ insert_entry elem_cmp (risen es) x w
  risen_put es fs x w same =
      alike (risen fs) (insert_entry elem_cmp (risen es) x w) (rising_always fs) (rising-insert_entry elem_cmp elem_total x w (risen es) (rising_always es))
      (λ q. changes es fs x (Some w) same q ∙ sym (lookup-insert_entry elem_cmp elem_total q x w (risen es)))

  -- or goes
  pub risen_taken : (es fs : List (Elem × X)) (x : Elem) → Changes es fs x None → risen fs ≡ remove_entry (is_at (elem_cmp x)) (risen es)
  risen_taken es fs x same =
      alike (risen fs) (remove_entry (is_at (elem_cmp x)) (risen es)) (rising_always fs) (rising-removed elem_cmp (is_at (elem_cmp x)) (risen es) (rising_always es))
      (λ q. changes es fs x None same q ∙ sym (lookup-removed elem_total q x (risen es) (rising_always es)))

  -- or has another value
  pub risen_written : (es fs : List (Elem × X)) (x : Elem) (old w : X) → at (risen es) x ≡ Some old → Changes es fs x (Some w) → risen fs ≡ set_value (is_at (elem_cmp x)) (risen es) w
  risen_written es fs x old w here same =
      let laws = eq_by_cmp_equiv elem_total in
      let found : IsSome (at (risen es) x) = subst IsSome (sym here) refl in
      alike (risen fs) (set_value (is_at (elem_cmp x)) (risen es) w) (rising_always fs) (subst (IsStrictlySortedBy elem_cmp) (sym (keys-set_value (is_at (elem_cmp x)) (risen es) w)) (rising_always es))
      (λ q. changes es fs x (Some w) same q
      ∙ sym (lookup-set_value laws (is_at (elem_cmp x)) (λ a b h. laws.congr x a b h) q w (risen es) found ∙ ap (λ b. cond b (Some w) (at (risen es) q)) (laws.symm x q)))

  -- ---- an entry and where it stands

  -- the element of an entry is not one that no entry has
  apart_at : (x z : Elem) (es : List (Elem × X)) (i : ℕ) (v : X) → AllByRecursion (λ k. same_elem z k ≡ false) (keys_of es) → slice_get es i ≡ Some (x, v) → same_elem z x ≡ false
  apart_at x z [] i v h here = absurd (let no : ⊥ = cc in no)
  apart_at x z (f ∷ es) Prim.Native.Nat.zero v h here = let key : f.0 ≡ x = λ j. (unwrap_or (here j) f).0 in subst (λ k. same_elem z k ≡ false) key h.0
  apart_at x z (f ∷ es) (suc i) v h here = apart_at x z es i v h.1 here

  -- an entry is found by its element
  found_at : (x : Elem) (v : X) (es : List (Elem × X)) (i : ℕ) → IsDistinct same_elem (keys_of es) → slice_get es i ≡ Some (x, v) → lookup (same_elem x) es ≡ Some v
  unfolding IsDistinct
  found_at x v [] i distinct here = absurd (let no : ⊥ = cc in no)
  found_at x v (f ∷ es) Prim.Native.Nat.zero distinct here =
      let key : f.0 ≡ x = λ j. (unwrap_or (here j) f).0 in
      let value : f.1 ≡ v = λ j. (unwrap_or (here j) f).1 in
      λ j. cond ((ap (same_elem x) key ∙ same_laws.refl x) j) (Some (value j)) (lookup (same_elem x) es)
  found_at x v (f ∷ es) (suc i) distinct here =
      ap (λ b. cond b (Some f.1) (lookup (same_elem x) es)) (same_laws.symm x f.0 ∙ apart_at x f.0 es i v distinct.0 here)
      ∙ found_at x v es i distinct.1 here

  within_at : (es : List (Elem × X)) (i : ℕ) (e : Elem × X) → slice_get es i ≡ Some e → i < length es
  within_at [] i e here = absurd (let no : ⊥ = cc in no)
  within_at (f ∷ es) Prim.Native.Nat.zero e here = omega arith
  within_at (f ∷ es) (suc i) e here = let rest = within_at es i e here in omega arith

  pub stands_here : (x : Elem) (v : X) (es : List (Elem × X)) (i : ℕ) → IsDistinct same_elem (keys_of es) → slice_get es i ≡ Some (x, v) → StandsAt es x i
  stands_here x v es i distinct here = record {
    value = v;
    within = within_at es i (x, v) here;
    entry = here;
    found = found_risen x es ∙ found_at x v es i distinct here;
  }

  -- the first entry that passes
  at_first : (x : Elem) (es : List (Elem × X)) → position_or_len (same_elem x) (keys_of es) < length (keys_of es) → (v : X) × (slice_get es (position_or_len (same_elem x) (keys_of es)) ≡ Some (x, v))
  at_first x [] h = absurd (omega arith)
  at_first x (e ∷ es) h =
      let p = position_or_len (same_elem x) (keys_of es) in
      elim (same_elem x e.0) as (λ b. same_elem x e.0 ≡ b → cond (not b) (1 + p) 0 < length (keys_of (e ∷ es)) → (v : X) × (slice_get (e ∷ es) (cond (not b) (1 + p) 0) ≡ Some (x, v))) [
        | true ↦ λ same _. let key = same_from_test x e.0 same in (e.1, λ j. Some (sym key j, e.1))
        | false ↦ λ _ less. let step : suc p ≡ 1 + p = omega arith in let rest = at_first x es (omega arith) in (rest.0, subst (λ k. slice_get (e ∷ es) k ≡ Some (x, rest.0)) step rest.1)
      ] refl h

  -- where an element is found, it stands
  pub stands_found : (x : Elem) (es : List (Elem × X)) (i : ℕ) → IsDistinct same_elem (keys_of es) → position (same_elem x) (keys_of es) ≡ Some i → StandsAt es x i
  stands_found x es i distinct is =
      let first = first_place (position_or_len (same_elem x) (keys_of es)) (length (keys_of es)) i is in
      let entry = at_first x es first.1 in
      stands_here x entry.0 es i distinct (subst (λ k. slice_get es k ≡ Some (x, entry.0)) first.0 entry.1)

  -- the value of an entry
  pub value_at : (es : List (Elem × X)) (i : ℕ) (e : Elem × X) → slice_get es i ≡ Some e → slice_get (values_of es) i ≡ Some e.1
  value_at [] i e here = absurd (let no : ⊥ = cc in no)
  value_at (f ∷ es) Prim.Native.Nat.zero e here = λ j. Some (unwrap_or (here j) f).1
  value_at (f ∷ es) (suc i) e here = value_at es i e here

  -- what stands there is what is found
  pub found_here : (es : List (Elem × X)) (x : Elem) (i : ℕ) → StandsAt es x i → (k : Elem) (v : X) → slice_get es i ≡ Some (k, v) → at (risen es) x ≡ Some v
  found_here es x i stands k v is =
      let both : Some (x, stands.value) ≡ Some (k, v) = sym stands.entry ∙ is in
      let same : stands.value ≡ v = λ j. (unwrap_or (both j) (k, v)).1 in
      stands.found ∙ ap Some same

  pub found_value : (es : List (Elem × X)) (x : Elem) (i : ℕ) → StandsAt es x i → (v : X) → slice_get (values_of es) i ≡ Some v → at (risen es) x ≡ Some v
  found_value es x i stands v is = stands.found ∙ sym (value_at es i (x, stands.value) stands.entry) ∙ is

  -- a value that is written there is that of its element
  pub written_at : {S : Type 0} (m : IndexMap Elem X S) (x : Elem) (i : ℕ) (w : X) → IsUnique same_elem m → StandsAt m.entries x i → risen (set_value_at m.entries i w) ≡ set_value (is_at (elem_cmp x)) (risen m.entries) w
  written_at m x i w unique stands =
      risen_written m.entries (set_value_at m.entries i w) x stands.value w stands.found
      (updates-with_value_at m i w same_laws unique x stands.value stands.entry).0

  -- ---- the last entry

  lookup_last : (es : List (Elem × X)) (x : Elem) (v : X) → lookup (same_elem x) es ≡ None → lookup (same_elem x) (es ++ (x, v) ∷ []) ≡ Some v
  lookup_last [] x v none = ap (λ b. cond b (Some v) None) (same_laws.refl x)
  lookup_last (e ∷ es) x v none =
      elim (same_elem x e.0) as (λ b. cond b (Some e.1) (lookup (same_elem x) es) ≡ None → cond b (Some e.1) (lookup (same_elem x) (es ++ (x, v) ∷ [])) ≡ Some v) [
        | true ↦ λ here. absurd (let no : ⊥ = cc in no)
        | false ↦ λ rest. lookup_last es x v rest
      ] none

  last_found : (es fs : List (Elem × X)) (e : Elem × X) → es ≡ fs ++ e ∷ [] → lookup (same_elem e.0) fs ≡ None → at (risen es) e.0 ≡ Some e.1
  last_found es fs e is none = found_risen e.0 es ∙ ap (lookup (same_elem e.0)) is ∙ lookup_last fs e.0 e.1 none

  -- what comes off the end was there, and is gone
  pub popped : {S : Type 0} (m n : IndexMap Elem X S) (o : Option (Elem × X)) → m.entries ≡ n.entries ++ option_to_list o → IfSome o (λ e. Updates same_elem m n e.0 None) →
      IfSome o (λ e. (at (risen m.entries) e.0 ≡ Some e.1) × (risen n.entries ≡ remove_entry (is_at (elem_cmp e.0)) (risen m.entries)))
  popped m n None is out = tt
  popped m n (Some e) is out = (last_found m.entries n.entries e is out.1, risen_taken m.entries n.entries e.0 out.0)

  -- ---- sums

  pub sum_risen : (f : X → ℕ) (es : List (Elem × X)) → IsDistinct same_elem (keys_of es) → sum_by f (values_of (risen es)) ≡ sum_by f (values_of es)
  unfolding IsDistinct
  sum_risen f [] distinct = refl
  sum_risen f (e ∷ es) distinct =
      let put = sum_by-insert_entry f elem_total (risen es) e.0 e.1 (rising_always es) in
      let nothing : unwrap_or (option_map f (at (risen es) e.0)) 0 ≡ 0 = ap (λ o. unwrap_or (option_map f o) 0) (found_risen e.0 es ∙ absent (same_elem e.0) es distinct.0) in
      let rest = sum_risen f es distinct.1 in
      let first = sum_by-cons f e.1 (values_of es) in
      omega arith
