-- The shelves of a store, one by one.
use Rattle.std.proofs.Common.{◌≡◌, ℕ, ◌<◌, ◌≤◌, ◌==◌, true, false, List, [], length, get_or, refl, sym, ap, subst, ◌∙◌, arith}
use Rattle.std.specs.Prelude.{slice_set}
use Rattle.std.specs.Cmp.{nat_eq_equiv}
use Rattle.std.specs.List.{All}
use Rattle.std.specs.List.Sorted.{IsStrictlySortedBy}
use Rattle.std.specs.Map.{keys_of}
use Rattle.std.proofs.lemmas.List.{get_or-set_same, get_or-set_other, length-map, get_or_default}
use Rattle.std.proofs.lemmas.List.Elements.{All-from_recursion, All-get_or}
use Rattle.std.proofs.lemmas.List.Sums.{get_or-le-sum_by}
use Rattle.std.proofs.lemmas.Map.Views.{exact_unsigned_eq}
use Rattle.charmlet_model.specs.declared.names.Elem.{Elem}
use Rattle.charmlet_model.specs.declared.state.Record.{Record}
use Rattle.charmlet_model.specs.Names.{elem_cmp}
use Rattle.charmlet_model.specs.Core.{present}
use Rattle.charmlet_model.specs.Shelves.{shelf_of}
use Rattle.charmlet_chare.specs.declared.chare.Chare.{Ghosts}
use Rattle.charmlet_delivery.specs.history.History.{History}
use Rattle.charmlet_delivery.specs.Kept.{core_in}
use Rattle.charmlet_shelf.specs.Count.{objects_on}
use Rattle.charmlet_shelf.specs.Shelf.{View}
use Rattle.charmlet_stock.specs.declared.stock.Stock.{Stock}
use Rattle.charmlet_delivery.specs.Workplace.{IsWithin, ShowsOn}
use Rattle.charmlet_migrate.specs.Copying.{empty_shelf}
use Rattle.charmlet_migrate.specs.Moving.{IsCountedAmong, ShowsPresent, objects_among, records_on}
use Rattle.charmlet_migrate.specs.StoreParts.{AreNumbered}
use Rattle.charmlet_migrate.proofs.Shelves as all_shelves

-- ---- a list with one element written over

-- each element is as before, or the one that was written
module _ {X : Type 0} (xs : List X) (p : ℕ) (y : X) (within : p < length xs) where
  pub each_or_one : (P : ℕ → X → Type 0) (d : X) → P p y → ((q : ℕ) → (p == q) ≡ false → P q (get_or xs q d)) → (q : ℕ) → P q (get_or (slice_set xs p y) q d)
  each_or_one P d own others q = elim (p == q) as (λ b. (p == q) ≡ b → P q (get_or (slice_set xs p y) q d)) [
    | true ↦ λ same.
        subst (λ q. P q (get_or (slice_set xs p y) q d)) (exact_unsigned_eq p q same)
        (subst (P p) (sym (get_or-set_same xs p y d within)) own)
    | false ↦ λ apart.
        let not_same : q ≡ p → ⊥ = λ same. (let itself = nat_eq_equiv.refl p in let bad : (p == p) ≡ false = ap (λ n. p == n) (sym same) ∙ apart in cc) in
        subst (P q) (sym (get_or-set_other xs p q y d not_same)) (others q apart)
  ] refl

-- ---- one of the shelves

-- its records
pub records_at : (shelves : List View) (p : ℕ) (shelf : View) → p < length shelves → shelf_of (records_on shelves) p ≡ (get_or shelves p shelf).records
records_at shelves p shelf within = all_shelves.records_at shelves p ∙ ap (λ (v : View). v.records) (get_or_default shelves p (empty_shelf 0) shelf within)

module _ {C : Type 0} {G : Ghosts C} (history : History) (shelves : List View) (stock : Stock C G) (numbers : AreNumbered shelves) (count : length shelves ≡ (core_in history).processors) (shows : ShowsPresent shelves history) (p : ℕ) (within : p < length shelves) (shelf : View) (is : shelf ≡ get_or shelves p shelf) where
  pub number_is : shelf.number ≡ p
  number_is = ap (λ (v : View). v.number) is ∙ numbers p shelf within

  -- it shows its part of the world
  pub shows_on : ShowsOn shelf.number shelf.records (core_in history).places (present (core_in history))
  shows_on =
      let records : shelf_of (records_on shelves) p ≡ shelf.records = records_at shelves p shelf within ∙ sym (ap (λ (v : View). v.records) is) in
      subst (λ n. ShowsOn n shelf.records (core_in history).places (present (core_in history))) (sym number_is)
      (subst (λ rs. ShowsOn p rs (core_in history).places (present (core_in history))) records (record {
        rising = All-get_or (λ (rs : List (Elem × Record)). IsStrictlySortedBy elem_cmp (keys_of rs)) (records_on shelves) p [] (let same = length-map shelves (λ (v : View). v.records) in omega arith)
            (All-from_recursion (λ (rs : List (Elem × Record)). IsStrictlySortedBy elem_cmp (keys_of rs)) (records_on shelves) shows.rising);
        shown = λ x. shows.shown p x;
      }))

  -- its objects were supplied
  pub within_supply : IsCountedAmong shelves stock → IsWithin shelf stock
  within_supply counted = λ kind.
      let all = counted kind in
      let own : objects_on shelf kind ≤ objects_among shelves kind =
      subst (λ (v : View). objects_on v kind ≤ objects_among shelves kind) (sym is) (get_or-le-sum_by (λ (v : View). objects_on v kind) shelves p shelf within) in
      omega arith
