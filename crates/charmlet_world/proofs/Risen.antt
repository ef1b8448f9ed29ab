-- The rows in rising order of their elements.
use Rattle.std.proofs.Common.{◌≡◌, ℕ, ◌+◌, true, false, cond, List, [], ◌∷◌, ◌++◌, length, refl, sym, ap, ◌∙◌, if◌then◌else◌, slice_get, arith}
use Rattle.std.specs.Prelude.{Option, Some, None, unwrap_or, is_some}
use Rattle.std.proofs.Common.{drop, suc}
use Rattle.std.specs.BTreeMap.{insert_entry, is_at}
use Rattle.std.specs.List.{IsDistinct}
use Rattle.std.specs.Ordering.{eq_by_cmp}
use Rattle.std.specs.List.Sorted.{IsStrictlySortedBy}
use Rattle.std.specs.Map.{keys_of, lookup}
use Rattle.indexmap.specs.IndexMap.{set_value_at}
use Rattle.charmlet_model.specs.declared.names.Elem.{Elem}
use Rattle.charmlet_model.specs.Names.{elem_cmp, same_elem}
use Rattle.charmlet_model.proofs.Maps.{absent, elem_total, elem_exact, same_elem-is, same_from_test, length-insert_entry, lookup-insert_entry, rising-insert_entry, same_maps}
use Rattle.charmlet_world.specs.declared.element.Element.{Element}
use Rattle.charmlet_world.specs.Standing.{element_in, no_element, risen}
use Rattle.charmlet_world.proofs.Rows.{Rows, changed, same_other_way}

pub rising : (es : Rows) → IsStrictlySortedBy elem_cmp (keys_of (risen es))
unfolding IsStrictlySortedBy
rising [] = tt
rising (e ∷ es) = rising-insert_entry elem_cmp elem_total e.0 e.1 (risen es) (rising es)

-- what is found among them is what was kept
pub found_risen : (q : Elem) (es : Rows) → lookup (is_at (elem_cmp q)) (risen es) ≡ lookup (same_elem q) es
found_risen q [] = refl
found_risen q (e ∷ es) =
    lookup-insert_entry elem_cmp elem_total q e.0 e.1 (risen es)
    ∙ (λ i. cond (sym (same_elem-is q e.0) i) (Some e.1) (found_risen q es i))

-- there are as many of them as rows, each of another element
pub risen_long : (es : Rows) → IsDistinct same_elem (keys_of es) → length (risen es) ≡ length es
unfolding IsDistinct
risen_long [] distinct = refl
risen_long (e ∷ es) distinct =
    let put = length-insert_entry elem_cmp elem_total e.0 e.1 (risen es) (rising es) in
    let none : is_some (lookup (is_at (elem_cmp e.0)) (risen es)) ≡ false = ap is_some (found_risen e.0 es ∙ absent (same_elem e.0) es distinct.0) in
    let rest = risen_long es distinct.1 in
    let longer : length (risen es) + 1 ≡ length (e ∷ es) = omega arith in
    put ∙ ap (λ b. cond b (length (risen es)) (length (risen es) + 1)) none ∙ longer

-- rows that find the same are one
same_risen : (es fs : Rows) (x : Elem) (w : Element) → ((q : Elem) → lookup (same_elem q) fs ≡ cond (same_elem q x) (Some w) (lookup (same_elem q) es)) → risen fs ≡ insert_entry elem_cmp (risen es) x w
same_risen es fs x w same =
    same_maps elem_cmp elem_total elem_exact (risen fs) (insert_entry elem_cmp (risen es) x w) (rising fs) (rising-insert_entry elem_cmp elem_total x w (risen es) (rising es))
    (λ q. found_risen q fs ∙ same q ∙ (λ i. cond (same_elem-is q x i) (Some w) (sym (found_risen q es) i)) ∙ sym (lookup-insert_entry elem_cmp elem_total q x w (risen es)))

-- a change by index
pub risen-changed : (x : Elem) (e w : Element) (es : Rows) (i : ℕ) → IsDistinct same_elem (keys_of es) → slice_get es i ≡ Some (x, e)
    → risen (set_value_at es i w) ≡ insert_entry elem_cmp (risen es) x w
risen-changed x e w es i distinct at =
    same_risen es (set_value_at es i w) x w
    (λ q. changed x q e w es i distinct at ∙ (λ j. cond (same_other_way x q j) (Some w) (lookup (same_elem q) es)))

pub lookup-append : {V : Type 0} (q : Elem) (es : List (Elem × V)) (x : Elem) (w : V) → lookup (same_elem x) es ≡ None → lookup (same_elem q) (es ++ (x, w) ∷ []) ≡ cond (same_elem q x) (Some w) (lookup (same_elem q) es)
lookup-append q [] x w none = refl
lookup-append q (e ∷ es) x w none =
    elim (same_elem x e.0) as (λ b. same_elem x e.0 ≡ b → (if b then Some e.1 else lookup (same_elem x) es) ≡ None
    → cond (same_elem q e.0) (Some e.1) (lookup (same_elem q) (es ++ (x, w) ∷ [])) ≡ cond (same_elem q x) (Some w) (cond (same_elem q e.0) (Some e.1) (lookup (same_elem q) es))) [
      | true ↦ λ _ here. absurd (let no : ⊥ = cc in no)
      | false ↦ λ apart rest.
          elim (same_elem q e.0) as (λ b. same_elem q e.0 ≡ b → cond b (Some e.1) (lookup (same_elem q) (es ++ (x, w) ∷ [])) ≡ cond (same_elem q x) (Some w) (cond b (Some e.1) (lookup (same_elem q) es))) [
            | true ↦ λ same. let other : same_elem q x ≡ false = ap (λ k. same_elem k x) (same_from_test q e.0 same) ∙ same_other_way e.0 x ∙ apart in rw other refl
            | false ↦ λ _. lookup-append q es x w rest
          ] refl
    ] refl none

-- a new row
pub risen-new : (x : Elem) (es : Rows) → lookup (same_elem x) es ≡ None → risen (es ++ (x, no_element) ∷ []) ≡ insert_entry elem_cmp (risen es) x (element_in es x)
risen-new x es none =
    same_risen es (es ++ (x, no_element) ∷ []) x no_element (λ q. lookup-append q es x no_element none)
    ∙ (λ i. insert_entry elem_cmp (risen es) x (unwrap_or (sym none i) no_element))

found_again : (x q : Elem) (es : Rows) → is_some (lookup (same_elem x) es) ≡ true → lookup (same_elem q) es ≡ cond (same_elem q x) (Some (element_in es x)) (lookup (same_elem q) es)
found_again x q es some =
    elim (same_elem q x) as (λ b. same_elem q x ≡ b → lookup (same_elem q) es ≡ cond b (Some (element_in es x)) (lookup (same_elem q) es)) [
      | true ↦ λ same. ap (λ k. lookup (same_elem k) es) (same_from_test q x same) ∙ whole (lookup (same_elem x) es) some
      | false ↦ λ _. refl
    ] refl
  where
    whole : (o : Option Element) → is_some o ≡ true → o ≡ Some (unwrap_or o no_element)
    whole None h = absurd (let no : ⊥ = cc in no)
    whole (Some e) h = refl

-- a row that is there
pub risen-same : (x : Elem) (es : Rows) → is_some (lookup (same_elem x) es) ≡ true → risen es ≡ insert_entry elem_cmp (risen es) x (element_in es x)
risen-same x es some = same_risen es es x (element_in es x) (λ q. found_again x q es some)

-- one more row, from the last on
pub one_more_row : (es : Rows) (i : ℕ) (x : Elem) (w : Element) → slice_get es i ≡ Some (x, w) → risen (drop i es) ≡ insert_entry elem_cmp (risen (drop (suc i) es)) x w
one_more_row [] i x w at = absurd (let no : ⊥ = cc in no)
one_more_row (e ∷ es) Prim.Native.Nat.zero x w at = let same : e ≡ (x, w) = (λ j. unwrap_or (at j) e) in λ j. insert_entry elem_cmp (risen es) (same j).0 (same j).1
one_more_row (e ∷ es) (suc i) x w at = one_more_row es i x w at

-- what is kept last of an element stays
pub inserted_again : (es : Rows) (x : Elem) (e w : Element) → insert_entry elem_cmp (insert_entry elem_cmp (risen es) x e) x w ≡ insert_entry elem_cmp (risen es) x w
inserted_again es x e w =
    let first = rising-insert_entry elem_cmp elem_total x e (risen es) (rising es) in
    same_maps elem_cmp elem_total elem_exact (insert_entry elem_cmp (insert_entry elem_cmp (risen es) x e) x w) (insert_entry elem_cmp (risen es) x w)
    (rising-insert_entry elem_cmp elem_total x w (insert_entry elem_cmp (risen es) x e) first) (rising-insert_entry elem_cmp elem_total x w (risen es) (rising es))
    (λ q. lookup-insert_entry elem_cmp elem_total q x w (insert_entry elem_cmp (risen es) x e)
    ∙ ap (cond (eq_by_cmp elem_cmp q x) (Some w)) (lookup-insert_entry elem_cmp elem_total q x e (risen es))
    ∙ elim (eq_by_cmp elem_cmp q x) as (λ b. cond b (Some w) (cond b (Some e) (lookup (is_at (elem_cmp q)) (risen es))) ≡ cond b (Some w) (lookup (is_at (elem_cmp q)) (risen es))) [ true ↦ refl | false ↦ refl ]
    ∙ sym (lookup-insert_entry elem_cmp elem_total q x w (risen es)))
