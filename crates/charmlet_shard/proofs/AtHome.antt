-- The shelf of an element's home, and all shelves once it has changed.
use Rattle.std.proofs.Common.{◌≡◌, ℕ, ◌+◌, ◌<◌, ◌≤◌, ◌==◌, true, false, cond, List, [], length, get_or, refl, sym, ap, subst, ◌∙◌, arith, if◌then◌else◌}
use Rattle.std.specs.Prelude.{Some, None, is_some, slice_set, unwrap_or}
use Rattle.std.specs.Cmp.{nat_eq_equiv}
use Rattle.std.specs.Ordering.{eq_by_cmp}
use Rattle.std.specs.BTreeMap.{insert_entry, is_at}
use Rattle.std.specs.List.{All, AllByRecursion}
use Rattle.std.specs.List.Sorted.{IsStrictlySortedBy}
use Rattle.std.specs.Map.{keys_of, lookup}
use Rattle.std.proofs.lemmas.List.{length-map, length-set, map-set}
use Rattle.std.proofs.lemmas.List.Elements.{All-from_recursion, All-get_or, All-set, recursion_from_All}
use Rattle.std.proofs.lemmas.List.Sums.{get_or-le-sum_by, sum_by-set}
use Rattle.std.proofs.lemmas.Map.Views.{tells_apart}
use Rattle.charmlet_model.specs.declared.names.Elem.{Elem}
use Rattle.charmlet_model.specs.declared.kind.Kind.{Kind}
use Rattle.charmlet_model.specs.declared.state.Record.{Record}
use Rattle.charmlet_model.specs.Names.{elem_cmp}
use Rattle.charmlet_model.specs.Core.{home}
use Rattle.charmlet_model.specs.World.{no_record, record_at}
use Rattle.charmlet_model.specs.Shelves.{if_there, shelf_of}
use Rattle.charmlet_model.proofs.Histories.{record_at-insert}
use Rattle.charmlet_model.proofs.Maps.{elem_exact}
use Rattle.charmlet_chare.specs.declared.chare.Chare.{Ghosts}
use Rattle.charmlet_shelf.specs.Count.{objects_on}
use Rattle.charmlet_shelf.specs.Shelf.{View, with_record}
use Rattle.charmlet_shelf.specs.declared.phase.Phase.TheVariants.{Idle}
use Rattle.charmlet_shelf.proofs.Records.{found_with, rising_with}
use Rattle.charmlet_stock.specs.declared.stock.Stock.{Stock}
use Rattle.charmlet_stock.specs.Stock.{supplied_to}
use Rattle.charmlet_migrate.specs.Moving.{IsCountedAmong, IsIdle, objects_among, records_on}
use Rattle.charmlet_migrate.specs.Workplace.{IsWithin, held_in}
use Rattle.charmlet_migrate.proofs.EachShelf.{each_or_one, records_at}
use Rattle.charmlet_shard.specs.Home.{AreHome, at_home}

abbrev Rising : List (Elem × Record) → Type 0
Rising records = IsStrictlySortedBy elem_cmp (keys_of records)

-- ---- one of the shelves

module _ (shelves : List View) (p : ℕ) (within : p < length shelves) (shelf : View) (is : shelf ≡ get_or shelves p shelf) where
  pub idle_here : All IsIdle shelves → shelf.phase ≡ Idle
  idle_here idle = ap (λ (v : View). v.phase) is ∙ All-get_or IsIdle shelves p shelf within idle

  -- its objects were supplied
  pub within_supply : {C : Type 0} {G : Ghosts C} (stock : Stock C G) → IsCountedAmong shelves stock → IsWithin shelf stock
  within_supply stock counted = λ kind.
      let all = counted kind in
      let own : objects_on shelf kind ≤ objects_among shelves kind =
      subst (λ (v : View). objects_on v kind ≤ objects_among shelves kind) (sym is) (get_or-le-sum_by (λ (v : View). objects_on v kind) shelves p shelf within) in
      omega arith

  -- what is held as before, and was supplied, is counted as before
  pub still_counted : {C : Type 0} {G : Ghosts C} (old new : Stock C G) (now : View) → held_in now new ≡ held_in shelf old → supplied_to new ≡ supplied_to old →
      IsCountedAmong shelves old → IsCountedAmong (slice_set shelves p now) new
  still_counted old new now held supplied counted = λ kind.
      let here : held_in now new kind ≡ held_in shelf old kind = ap (λ (f : Kind → ℕ). f kind) held in
      let all : supplied_to new kind ≡ supplied_to old kind = ap (λ (f : Kind → ℕ). f kind) supplied in
      let sums : objects_among (slice_set shelves p now) kind + objects_on (get_or shelves p shelf) kind ≡ objects_among shelves kind + objects_on now kind = sum_by-set (λ (v : View). objects_on v kind) shelves p now shelf within in
      let own : objects_on (get_or shelves p shelf) kind ≡ objects_on shelf kind = ap (λ (v : View). objects_on v kind) (sym is) in
      let before = counted kind in
      omega arith

  pub still_idle : (now : View) → now.phase ≡ Idle → All IsIdle shelves → All IsIdle (slice_set shelves p now)
  still_idle now here idle = All-set IsIdle shelves p now here idle

  module _ (n : ℕ) (records : List (Elem × Record)) (are : AreHome n records shelves) where
    records_here : shelf_of (records_on shelves) p ≡ shelf.records
    records_here = records_at shelves p shelf within ∙ sym (ap (λ (v : View). v.records) is)

    rows : p < length (records_on shelves)
    rows = let same = length-map shelves (λ (v : View). v.records) in omega arith

    pub number_here : shelf.number ≡ p
    number_here = ap (λ (v : View). v.number) is ∙ are.numbers p shelf within

    pub rising_here : Rising shelf.records
    rising_here = subst Rising records_here (All-get_or Rising (records_on shelves) p _ rows (All-from_recursion Rising (records_on shelves) are.rising))

    pub shown_here : (x : Elem) → lookup (is_at (elem_cmp x)) shelf.records ≡ at_home n records p x
    shown_here x = ap (lookup (is_at (elem_cmp x))) (sym records_here) ∙ are.shown p x

    -- an element that isn't known isn't there
    pub absent_here : (x : Elem) → lookup (is_at (elem_cmp x)) records ≡ None → lookup (is_at (elem_cmp x)) shelf.records ≡ None
    absent_here x absent =
        shown_here x ∙ (λ i. if home x n == p then if_there (unknown i) else None)
        ∙ elim (home x n == p) as (λ b. (if b then if_there no_record else None) ≡ None) [ true ↦ refl | false ↦ refl ]
      where
        unknown : record_at records x ≡ no_record
        unknown = ap (λ o. unwrap_or o no_record) absent

    -- of an element whose home it is, its record
    pub own_here : (x : Elem) → home x n ≡ p → lookup (is_at (elem_cmp x)) shelf.records ≡ if_there (record_at records x)
    own_here x same = shown_here x ∙ ap (λ b. if b then if_there (record_at records x) else None) (ap (λ h. h == p) same ∙ nat_eq_equiv.refl p)

    -- the shelves once a record was written over the others on it
    module _ (x : Elem) (its : home x n ≡ p) (r : Record) (now : View) (number : now.number ≡ shelf.number) (idle : now.phase ≡ Idle) (written : now.records ≡ with_record shelf.records x r) where
      abbrev later : List (Elem × Record)
      later = insert_entry elem_cmp records x r

      abbrev shows : Elem → ℕ → List (Elem × Record) → Type 0
      shows y q on = lookup (is_at (elem_cmp y)) on ≡ at_home n later q y

      changed : (y : Elem) → record_at later y ≡ cond (eq_by_cmp elem_cmp y x) r (record_at records y)
      changed y = record_at-insert records x r y

      own : (y : Elem) → shows y p now.records
      own y =
          ap (lookup (is_at (elem_cmp y))) written ∙ found_with shelf.records rising_here x y r
          ∙ elim (eq_by_cmp elem_cmp y x) as (λ b. eq_by_cmp elem_cmp y x ≡ b → cond b (if_there r) (lookup (is_at (elem_cmp y)) shelf.records) ≡ at_home n later p y) [
            | true ↦ λ same.
                sym (ap (λ b. if b then if_there (record_at later y) else None) (ap (λ z. home z n == p) (tells_apart elem_exact y x same) ∙ ap (λ h. h == p) its ∙ nat_eq_equiv.refl p)
                ∙ ap if_there (changed y ∙ ap (λ b. cond b r (record_at records y)) same))
            | false ↦ λ apart. shown_here y ∙ sym (ap (λ v. if home y n == p then if_there v else None) (changed y ∙ ap (λ b. cond b r (record_at records y)) apart))
          ] refl

      others : (y : Elem) (q : ℕ) → (p == q) ≡ false → shows y q (get_or (records_on shelves) q [])
      others y q far =
          are.shown q y
          ∙ elim (eq_by_cmp elem_cmp y x) as (λ b. eq_by_cmp elem_cmp y x ≡ b → at_home n records q y ≡ at_home n later q y) [
            | true ↦ λ same.
                let away : (home y n == q) ≡ false = ap (λ z. home z n == q) (tells_apart elem_exact y x same) ∙ ap (λ h. h == q) its ∙ far in
                ap (λ b. if b then if_there (record_at records y) else None) away ∙ sym (ap (λ b. if b then if_there (record_at later y) else None) away)
            | false ↦ λ apart. sym (ap (λ v. if home y n == q then if_there v else None) (changed y ∙ ap (λ b. cond b r (record_at records y)) apart))
          ] refl

      pub are_home : AreHome n later (slice_set shelves p now)
      are_home =
          let on : now.number ≡ p = number ∙ number_here in
          let records_now : records_on (slice_set shelves p now) ≡ slice_set (records_on shelves) p now.records = map-set (λ (v : View). v.records) shelves p now in
          record {
            count = length-set shelves p now ∙ are.count;
            numbers = λ q d less.
                each_or_one shelves p now within (λ q (v : View). q < length shelves → v.number ≡ q) d (λ _. on) (λ q apart less. are.numbers q d less) q
                (let same = length-set shelves p now in omega arith);
            idle = still_idle now idle are.idle;
            rising = subst (AllByRecursion Rising) (sym records_now)
                (recursion_from_All Rising (slice_set (records_on shelves) p now.records)
                (All-set Rising (records_on shelves) p now.records (subst Rising (sym written) (rising_with shelf.records rising_here x r))
                (All-from_recursion Rising (records_on shelves) are.rising)));
            shown = λ q y. ap (λ on. lookup (is_at (elem_cmp y)) (shelf_of on q)) records_now
                ∙ each_or_one (records_on shelves) p now.records rows (λ q on. shows y q on) [] (own y) (λ q far. others y q far) q;
          }

-- an element that isn't there, and of which something is kept now, changes no shelf
pub kept_absent : (n : ℕ) (records : List (Elem × Record)) (shelves : List View) → AreHome n records shelves → (x : Elem) (r : Record) → lookup (is_at (elem_cmp x)) records ≡ None → r.state ≡ None →
    AreHome n (insert_entry elem_cmp records x r) shelves
kept_absent n records shelves are x r absent none = record {
  count = are.count;
  numbers = are.numbers;
  idle = are.idle;
  rising = are.rising;
  shown = λ q y. are.shown q y
      ∙ elim (eq_by_cmp elem_cmp y x) as (λ b. eq_by_cmp elem_cmp y x ≡ b → at_home n records q y ≡ at_home n (insert_entry elem_cmp records x r) q y) [
        | true ↦ λ same.
            let before : record_at records y ≡ no_record = ap (record_at records) (tells_apart elem_exact y x same) ∙ ap (λ o. unwrap_or o no_record) absent in
            let after : record_at (insert_entry elem_cmp records x r) y ≡ r = record_at-insert records x r y ∙ ap (λ b. cond b r (record_at records y)) same in
            let nothing : if_there r ≡ None = ap (λ o. if is_some o then Some r else None) none in
            ap (λ v. if home y n == q then if_there v else None) before
            ∙ sym (ap (λ v. if home y n == q then if_there v else None) after ∙ ap (λ o. if home y n == q then o else None) nothing)
        | false ↦ λ apart. sym (ap (λ v. if home y n == q then if_there v else None) (record_at-insert records x r y ∙ ap (λ b. cond b r (record_at records y)) apart))
      ] refl;
}
