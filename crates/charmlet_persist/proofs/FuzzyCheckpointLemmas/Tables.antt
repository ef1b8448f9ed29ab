-- A table in rising order, and its entries one by one.
use Rattle.std.proofs.Common.{◌≡◌, ℕ, ◌+◌, true, false, List, refl, sym, ap, ◌∙◌, arith}
use Rattle.std.proofs.lemmas.Map.Keys.{apart_from_distinct, sorted_from_all_adjacent}
use Rattle.std.specs.Prelude.{Option, Some, None, Result, Ok, Err, OnOk, IsSorted, get_or, is_some}
use Rattle.std.specs.List.{IsDistinct}
use Rattle.std.specs.List.Sorted.{IsStrictlySortedBy}
use Rattle.std.specs.Map.{lookup}
use Rattle.std.specs.Ordering.{is_eq, is_lt, ordering_reverse}
use Rattle.std.specs.declared.cmp.Ordering.TheVariants.{Less, Equal, Greater}
use Rattle.charmlet_model.specs.declared.names.Elem.{Elem}
use Rattle.charmlet_model.specs.Names.{elem_cmp, same_elem}
use Rattle.charmlet_model.proofs.Maps.{elem_total, same_elem-is}
use Rattle.charmlet_shelf.specs.Risen.{risen}
use Rattle.charmlet_shelf.proofs.Records.{alike}
use Rattle.charmlet_shelf.proofs.Risen.{found_risen, rising_always}
use Rattle.charmlet_persist.specs.declared.fuzzy_checkpoint.captured_element.CapturedElement.{CapturedElement}
use Rattle.charmlet_persist.specs.FuzzyCheckpoint.Sealing.{counted_if}
use Rattle.charmlet_persist.proofs.FuzzyCheckpointLemmas.Steps.{Rises}

-- ---- order

-- of two that aren't in falling order, and differ, the first is less
less_than : (a b : Elem) → is_lt (elem_cmp b a) ≡ false → same_elem a b ≡ false → elem_cmp a b ≡ Less
less_than a b rising apart =
    elim (elem_cmp a b) as (λ o. elem_cmp a b ≡ o → o ≡ Less) [
      | Less ↦ λ _. refl
      | Equal ↦ λ same. absurd (let both : false ≡ true = sym apart ∙ same_elem-is a b ∙ ap is_eq same in let never : ⊥ = cc in never)
      | Greater ↦ λ greater. absurd (let both : false ≡ true = sym rising ∙ ap is_lt (elem_total.antisymm b a ∙ ap ordering_reverse greater) in let never : ⊥ = cc in never)
    ] refl

pub sorted_rises : (ks : List Elem) → IsSorted elem_cmp ks → IsDistinct same_elem ks → IsStrictlySortedBy elem_cmp ks
sorted_rises ks sorted distinct =
    let none : Elem = record { array = 0; index = 0 } in
    sorted_from_all_adjacent elem_total ks none
    (λ k l. less_than (get_or ks k none) (get_or ks (k + 1) none) (sorted k none (omega arith) (omega arith)) (apart_from_distinct same_elem ks k (k + 1) none distinct (omega arith) (omega arith)))

-- what rises is the list that a tree of it would be
pub risen_already : (es : List (Elem × Option CapturedElement)) → Rises es → es ≡ risen es
risen_already es rises =
    alike es (risen es) rises (rising_always es)
    (λ q. (λ i. lookup (λ k. sym (same_elem-is q k) i) es) ∙ sym (found_risen q es))

-- two that find the same come to one list
pub risen_same : (es fs : List (Elem × Option CapturedElement)) → ((q : Elem) → lookup (same_elem q) fs ≡ lookup (same_elem q) es) → risen fs ≡ risen es
risen_same es fs same =
    alike (risen fs) (risen es) (rising_always fs) (rising_always es)
    (λ q. found_risen q fs ∙ same q ∙ sym (found_risen q es))

-- what holds of a success, by what holds of it already
pub on_ok : {T E : Type 0} (r : Result T E) (A B : Type 0) → (A → B) → OnOk r A → OnOk r B
on_ok (Ok x) A B f h = f h
on_ok (Err e) A B f h = h

-- ---- one entry more

pub counted_more : (o : Option CapturedElement) (n : ℕ) → is_some o ≡ true → counted_if o n ≡ n + 1
counted_more None n some = absurd (let never : ⊥ = cc in never)
counted_more (Some s) n some = refl

pub counted_less : (o : Option CapturedElement) (n : ℕ) → is_some o ≡ false → counted_if o n ≡ n
counted_less None n none = refl
counted_less (Some s) n none = absurd (let never : ⊥ = cc in never)
