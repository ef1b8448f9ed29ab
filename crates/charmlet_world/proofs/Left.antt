-- Elements that aren't there, and have received a message.
use Rattle.std.proofs.Common.{◌≡◌, ℕ, suc, drop, true, false, cond, List, [], ◌∷◌, refl, sym, ap, subst, ◌∙◌, if◌then◌else◌, slice_get}
use Rattle.std.specs.Prelude.{Some, None, Option}
use Rattle.std.specs.Ordering.{eq_by_cmp}
use Rattle.std.specs.declared.cmp.Ordering.TheVariants.{Less}
use Rattle.std.specs.List.{AllByRecursion, IsDistinct}
use Rattle.std.specs.List.Sorted.{IsStrictlySortedBy}
use Rattle.std.specs.BTreeMap.{insert_entry, is_at}
use Rattle.std.specs.Map.{lookup, keys_of}
use Rattle.std.proofs.lemmas.Map.Keys.{IsDistinct-from_sorted, IsDistinct-head}
use Rattle.std.proofs.lemmas.Map.Views.{tells_apart}
use Rattle.charmlet_model.specs.declared.names.Elem.{Elem}
use Rattle.charmlet_model.specs.Names.{elem_cmp, same_elem}
use Rattle.charmlet_model.proofs.Maps.{elem_total, elem_exact, lookup-insert_entry, rising-insert_entry, same_maps, absent}
use Rattle.charmlet_world.specs.declared.element.Element.{Element}
use Rattle.charmlet_world.specs.Standing.{is_left, left_of, risen}
use Rattle.charmlet_world.proofs.Places.{none_after, rest_rises}
use Rattle.charmlet_world.proofs.Risen.{found_risen, one_more_row, rising}
use Rattle.charmlet_world.proofs.Rows.{Rows}

left_all : (P : Elem → Type 0) (es : List (Elem × Element)) → AllByRecursion P (keys_of es) → AllByRecursion P (keys_of (left_of es))
left_all P [] h = tt
left_all P (e ∷ es) h = elim (is_left e.1) as (λ b. AllByRecursion P (keys_of (if b then e ∷ left_of es else left_of es))) [
  | true ↦ (h.0, left_all P es h.1)
  | false ↦ left_all P es h.1
]

left_rising : (es : List (Elem × Element)) → IsStrictlySortedBy elem_cmp (keys_of es) → IsStrictlySortedBy elem_cmp (keys_of (left_of es))
unfolding IsStrictlySortedBy
left_rising [] h = tt
left_rising (e ∷ es) h = elim (is_left e.1) as (λ b. IsStrictlySortedBy elem_cmp (keys_of (if b then e ∷ left_of es else left_of es))) [
  | true ↦ (left_all (λ y. elem_cmp e.0 y ≡ Less) es h.0, left_rising es h.1)
  | false ↦ left_rising es h.1
]

abbrev found : Elem → List (Elem × Element) → Option Element
found x es = lookup (is_at (elem_cmp x)) es

abbrev only_left : Option Element → Option Element
only_left None = None
only_left (Some e) = if is_left e then Some e else None

-- of what is found among all only this is found
found_left : (x : Elem) (es : List (Elem × Element)) → IsStrictlySortedBy elem_cmp (keys_of es) → found x (left_of es) ≡ only_left (found x es)
found_left x [] rises = refl
found_left x (e ∷ es) rises =
    let rest = found_left x es (rest_rises e es rises) in
    elim (eq_by_cmp elem_cmp x e.0) as (λ b. eq_by_cmp elem_cmp x e.0 ≡ b → found x (if is_left e.1 then e ∷ left_of es else left_of es) ≡ only_left (cond b (Some e.1) (found x es))) [
      | true ↦ λ same.
          let others = IsDistinct-head (eq_by_cmp elem_cmp) e.0 (keys_of es) (IsDistinct-from_sorted elem_cmp (keys_of (e ∷ es)) rises) in
          let none : found x es ≡ None = subst (λ y. found y es ≡ None) (sym (tells_apart elem_exact x e.0 same)) (absent (is_at (elem_cmp e.0)) es others) in
          elim (is_left e.1) as (λ b. found x (if b then e ∷ left_of es else left_of es) ≡ (if b then Some e.1 else None)) [
            | true ↦ ap (λ b. cond b (Some e.1) (found x (left_of es))) same
            | false ↦ rest ∙ ap only_left none
          ]
      | false ↦ λ apart.
          elim (is_left e.1) as (λ b. found x (if b then e ∷ left_of es else left_of es) ≡ only_left (found x es)) [
            | true ↦ ap (λ b. cond b (Some e.1) (found x (left_of es))) apart ∙ rest
            | false ↦ rest
          ]
    ] refl

-- one more element
module _ (es : List (Elem × Element)) (rises : IsStrictlySortedBy elem_cmp (keys_of es)) (x : Elem) (e : Element) (none : found x es ≡ None) where
  abbrev written : List (Elem × Element)
  written = insert_entry elem_cmp es x e

  written_rises : IsStrictlySortedBy elem_cmp (keys_of written)
  written_rises = rising-insert_entry elem_cmp elem_total x e es rises

  found_written : (y : Elem) → found y (left_of written) ≡ only_left (cond (eq_by_cmp elem_cmp y x) (Some e) (found y es))
  found_written y = found_left y written written_rises ∙ ap only_left (lookup-insert_entry elem_cmp elem_total y x e es)

  left_more : is_left e ≡ true → left_of written ≡ insert_entry elem_cmp (left_of es) x e
  left_more is =
      same_maps elem_cmp elem_total elem_exact (left_of written) (insert_entry elem_cmp (left_of es) x e)
      (left_rising written written_rises) (rising-insert_entry elem_cmp elem_total x e (left_of es) (left_rising es rises))
      (λ y. found_written y
      ∙ elim (eq_by_cmp elem_cmp y x) as (λ b. only_left (cond b (Some e) (found y es)) ≡ cond b (Some e) (found y (left_of es))) [
        | true ↦ ap (λ b. if b then Some e else None) is
        | false ↦ sym (found_left y es rises)
      ]
      ∙ sym (lookup-insert_entry elem_cmp elem_total y x e (left_of es)))

  left_same : is_left e ≡ false → left_of written ≡ left_of es
  left_same stays =
      same_maps elem_cmp elem_total elem_exact (left_of written) (left_of es) (left_rising written written_rises) (left_rising es rises)
      (λ y. found_written y
      ∙ elim (eq_by_cmp elem_cmp y x) as (λ b. eq_by_cmp elem_cmp y x ≡ b → only_left (cond b (Some e) (found y es)) ≡ found y (left_of es)) [
        | true ↦ λ same.
            let gone : found y es ≡ None = subst (λ z. found z es ≡ None) (sym (tells_apart elem_exact y x same)) none in
            ap (λ b. if b then Some e else None) stays ∙ sym (found_left y es rises ∙ ap only_left gone)
        | false ↦ λ _. sym (found_left y es rises)
      ] refl)

  left_put : left_of written ≡ (if is_left e then insert_entry elem_cmp (left_of es) x e else left_of es)
  left_put =
      elim (is_left e) as (λ b. is_left e ≡ b → left_of written ≡ (if b then insert_entry elem_cmp (left_of es) x e else left_of es)) [
        | true ↦ λ is. left_more is
        | false ↦ λ stays. left_same stays
      ] refl

-- one more row, from the last on
pub one_more_left : (es : Rows) (i : ℕ) (x : Elem) (e : Element) → IsDistinct same_elem (keys_of es) → slice_get es i ≡ Some (x, e) →
    left_of (risen (drop i es)) ≡ (if is_left e then insert_entry elem_cmp (left_of (risen (drop (suc i) es))) x e else left_of (risen (drop (suc i) es)))
one_more_left es i x e distinct at =
    let rest = drop (suc i) es in
    ap left_of (one_more_row es i x e at) ∙ left_put (risen rest) (rising rest) x e (found_risen x rest ∙ none_after es i x e distinct at)
