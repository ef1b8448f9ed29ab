-- Elements that come to their homes one by one.
use Rattle.std.proofs.Common.{◌+◌, ◌<◌, length, take, subst, ◌≡◌, ℕ, Bool, true, false, cond, ◌||◌, List, [], ◌∷◌, ◌++◌, refl, sym, ap, ◌∙◌}
use Rattle.std.specs.Prelude.{Some, None, slice_index_or}
use Rattle.std.specs.BTreeMap.{insert_entry, is_at}
use Rattle.std.specs.Map.{lookup}
use Rattle.std.proofs.lemmas.List.{take_more}
use Rattle.std.proofs.lemmas.List.Folds.{list_any-append}
use Rattle.charmlet_model.specs.declared.names.Elem.{Elem}
use Rattle.charmlet_model.specs.Names.{elem_cmp, same_elem}
use Rattle.charmlet_model.specs.Core.{home}
use Rattle.charmlet_model.proofs.Maps.{elem_total, lookup-insert_entry, same_elem-is, same_from_test}
use Rattle.charmlet_locate.specs.Locations.{AreAtHome, is_among}

-- the last one, or one of those before
last_or_before : (n : ℕ) (q x : Elem) (before : Bool) →
    cond (same_elem q x) (Some (home x n)) (cond before (Some (home q n)) None) ≡ cond (before || (same_elem q x || false)) (Some (home q n)) None
last_or_before n q x before =
    elim (same_elem q x) as (λ b. same_elem q x ≡ b → cond b (Some (home x n)) (cond before (Some (home q n)) None) ≡ cond (before || (b || false)) (Some (home q n)) None) [
      | true ↦ λ same. ap (λ y. Some (home y n)) (sym (same_from_test q x same)) ∙ elim before as (λ b. Some (home q n) ≡ cond (b || true) (Some (home q n)) None) [ true ↦ refl | false ↦ refl ]
      | false ↦ λ _. elim before as (λ b. cond b (Some (home q n)) None ≡ cond (b || false) (Some (home q n)) None) [ true ↦ refl | false ↦ refl ]
    ] refl

-- one more element comes to its home
pub one_more_home : (n : ℕ) (elems : List Elem) (places : List (Elem × ℕ)) (x : Elem) → AreAtHome n elems places →
    AreAtHome n (elems ++ x ∷ []) (insert_entry elem_cmp places x (home x n))
one_more_home n elems places x at_home q =
    lookup-insert_entry elem_cmp elem_total q x (home x n) places
    ∙ ap (λ b. cond b (Some (home x n)) (lookup (is_at (elem_cmp q)) places)) (sym (same_elem-is q x))
    ∙ ap (cond (same_elem q x) (Some (home x n))) (at_home q)
    ∙ last_or_before n q x (is_among q elems)
    ∙ ap (λ b. cond b (Some (home q n)) None) (sym (list_any-append (same_elem q) elems (x ∷ [])))

-- so does the next of some elements
pub next_at_home : (n : ℕ) (elems : List Elem) (i : ℕ) (none : Elem) (places : List (Elem × ℕ)) → i < length elems → AreAtHome n (take i elems) places →
    AreAtHome n (take (i + 1) elems) (insert_entry elem_cmp places (slice_index_or elems i none) (home (slice_index_or elems i none) n))
next_at_home n elems i none places less at_home =
    let x = slice_index_or elems i none in
    subst (λ xs. AreAtHome n xs (insert_entry elem_cmp places x (home x n))) (sym (take_more elems i none less)) (one_more_home n (take i elems) places x at_home)
