-- The shelves of a store, one by one and all together.
use Rattle.std.proofs.Common.{Vec, ◌≡◌, ℕ, ◌+◌, ◌<◌, ◌≤◌, ◌==◌, zero, suc, true, false, cond, List, [], ◌∷◌, length, get_or, refl, sym, ap, subst, ◌∙◌, arith}
use Rattle.std.specs.Prelude.{IfSome, Some, slice_set}
use Rattle.std.specs.Cmp.{nat_eq_equiv}
use Rattle.std.specs.BTreeMap.{is_at}
use Rattle.std.specs.List.{All, AllByRecursion}
use Rattle.std.specs.List.Sorted.{IsStrictlySortedBy}
use Rattle.std.specs.Map.{lookup, keys_of}
use Rattle.std.specs.Vec.{with_item}
use Rattle.std.proofs.Math.Nat.{ℕ_set}
use Rattle.std.proofs.Math.Path.{path_j}
use Rattle.std.proofs.lemmas.List.{get_or-set_same, get_or-set_other, length-set, length-map, map-set, get_or_default}
use Rattle.std.proofs.lemmas.List.Elements.{All-from_recursion, recursion_from_All, All-get_or, All-set}
use Rattle.std.proofs.lemmas.List.Sums.{get_or-le-sum_by, sum_by-cons, sum_by-set}
use Rattle.std.proofs.lemmas.Map.Views.{exact_unsigned_eq}
use Rattle.charmlet_model.specs.declared.names.Elem.{Elem}
use Rattle.charmlet_model.specs.declared.kind.Kind.{Kind}
use Rattle.charmlet_model.specs.declared.kind_version.KindVersion.{KindVersion}
use Rattle.charmlet_model.specs.declared.state.Record.{Record}
use Rattle.charmlet_model.specs.Names.{elem_cmp}
use Rattle.charmlet_model.specs.World.{World, record_of}
use Rattle.charmlet_model.specs.Core.{Core, place_of, present}
use Rattle.charmlet_model.specs.Sound.{new_world, opened}
use Rattle.charmlet_model.specs.Shelves.{Shows, if_here, shelf_of, there_in}
use Rattle.charmlet_chare.specs.declared.chare.Chare.{Ghosts}
use Rattle.charmlet_history.specs.declared.history.History.{History}
use Rattle.charmlet_history.specs.Kept.{IsConsistent, core_in}
use Rattle.charmlet_shelf.specs.Count.{is_newcomer_of, objects_on}
use Rattle.charmlet_shelf.specs.Shelf.{View}
use Rattle.charmlet_shelf.specs.declared.phase.Phase.{Phase}
use Rattle.charmlet_shelf.specs.declared.phase.Phase.TheVariants.{Idle}
use Rattle.charmlet_stock.specs.declared.stock.Stock.{Stock}
use Rattle.charmlet_stock.specs.declared.pile.Tally.{Tally}
use Rattle.charmlet_stock.specs.Pile.{nothing}
use Rattle.charmlet_stock.specs.Stock.{tally_in, supplied_to}
use Rattle.charmlet_migrate.specs.Moving.{IsCountedAmong, IsIdle, ShowsPresent, objects_among, records_on}
use Rattle.charmlet_migrate.proofs.EachShelf.{each_or_one, number_is, records_at, shows_on, within_supply}
use Rattle.charmlet_migrate.proofs.Shelves as all_shelves
use Rattle.charmlet_migrate.specs.Turns.{Turns}
use Rattle.charmlet_migrate.specs.UnderWay.{IsUnderWay, due_in}
use Rattle.charmlet_migrate.specs.Workplace.{IsConsistentWorkplace, IsWithin, ShowsOn, workplace_of, held_in}
use Rattle.charmlet_store.specs.Store.{AreEmpty, IsNew}
use Rattle.charmlet_migrate.specs.StoreParts.{AreNumbered, FitTogether}
use Rattle.charmlet_store.specs.declared.store.Store.TheInside.{Inside}
use Rattle.charmlet_migrate.specs.Copying.{empty_shelf}

-- the parts of a store fit together
abbrev pub IsTogether : {C : Type 0} {G : Ghosts C} → Inside C G → Type 0
IsTogether store = FitTogether store.history store.shelves.items store.stock

-- the world after its whole history
abbrev pub world_of : {C : Type 0} {G : Ghosts C} → Inside C G → World
world_of store = present (core_in store.history)

-- ---- a list with one element written over

-- an element that is written as it was
module _ {X Z : Type 0} (v : Vec X Z) where
  abbrev refilled : (items : List X) (fits : v.len ≡ length items) → Vec X Z
  refilled items fits = record { ptr = v.ptr; len = v.len; cap = v.cap; alloc = v.alloc; items = items; ok = (fits, v.ok.1); small = v.small }

  refilled_same : {items : List X} → v.items ≡ items → (fits : v.len ≡ length items) → refilled items fits ≡ v
  refilled_same = path_j (λ items _. (fits : v.len ≡ length items) → refilled items fits ≡ v) (λ fits j. record { ptr = v.ptr; len = v.len; cap = v.cap; alloc = v.alloc; items = v.items; ok = (ℕ_set _ _ fits v.ok.0 j, v.ok.1); small = v.small })

  pub same_item : (i : ℕ) (x : X) → slice_set v.items i x ≡ v.items → with_item v i x ≡ v
  same_item i x same = refilled_same (sym same) (with_item v i x).ok.0

-- no delivery is under way there
idle_at : {C : Type 0} {G : Ghosts C} (store : Inside C G) → IsTogether store → (p : ℕ) (shelf : View) → p < length store.shelves.items → shelf ≡ get_or store.shelves.items p shelf → shelf.phase ≡ Idle
idle_at store consistent p shelf within is = ap (λ (v : View). v.phase) is ∙ All-get_or IsIdle store.shelves.items p shelf within consistent.idle

-- a shelf of a store that stands
pub consistent_at : {C : Type 0} {G : Ghosts C} (store : Inside C G) → IsTogether store → (p : ℕ) (shelf : View) → p < length store.shelves.items → shelf ≡ get_or store.shelves.items p shelf → IsConsistentWorkplace (workplace_of store.history shelf store.stock)
consistent_at store consistent p shelf within is =
    let shelves = store.shelves.items in
    let core = core_in store.history in
    let number = number_is store.history shelves store.stock consistent.numbers consistent.count consistent.objects p within shelf is in
    record {
      shelf = record {
        on = let count = consistent.count in omega arith;
        objects = shows_on store.history shelves store.stock consistent.numbers consistent.count consistent.objects p within shelf is;
      };
      due = subst (λ (phase : Phase). IfSome (due_in phase) (IsUnderWay core shelf.number)) (sym (idle_at store consistent p shelf within is)) tt;
      census = within_supply store.history shelves store.stock consistent.numbers consistent.count consistent.objects p within shelf is consistent.census;
    }

-- what it shows of an element whose place is this processor
pub seen_at : {C : Type 0} {G : Ghosts C} (store : Inside C G) → IsTogether store → (p : ℕ) (shelf : View) → p < length store.shelves.items → shelf ≡ get_or store.shelves.items p shelf → (x : Elem) (place : ℕ) → p ≡ place →
    place_of (core_in store.history) x ≡ Some place → lookup (is_at (elem_cmp x)) shelf.records ≡ if_here (Some place) place (record_of (world_of store) x)
seen_at store consistent p shelf within is x place same on =
    let number = number_is store.history store.shelves.items store.stock consistent.numbers consistent.count consistent.objects p within shelf is in
    (consistent_at store consistent p shelf within is).shelf.objects.shown x ∙ (λ i. if_here (on i) ((number ∙ same) i) (record_of (world_of store) x))

-- ---- the store once a delivery has ended on one of its shelves

module _ {C : Type 0} {G : Ghosts C} (old new : Inside C G) (consistent : IsTogether old) (p : ℕ) (within : p < length old.shelves.items) (before shelf : View)
    (is : before ≡ get_or old.shelves.items p before) (written : new.shelves.items ≡ slice_set old.shelves.items p shelf)
    (now : IsConsistent new.history) (idle : shelf.phase ≡ Idle) (turns : Turns (workplace_of old.history before old.stock) (workplace_of new.history shelf new.stock)) where
  abbrev first : List View
  first = old.shelves.items

  abbrev last : List View
  last = slice_set first p shelf

  was_on : before.number ≡ p
  was_on = number_is old.history first old.stock consistent.numbers consistent.count consistent.objects p within before is

  on : shelf.number ≡ p
  on = turns.number ∙ was_on

  still_numbered : AreNumbered last
  still_numbered q d less =
      each_or_one first p shelf within (λ q (v : View). q < length first → v.number ≡ q) d (λ _. on) (λ q apart less. consistent.numbers q d less) q
      (let same = length-set first p shelf in omega arith)

  still_idle : All IsIdle last
  still_idle = All-set IsIdle first p shelf idle consistent.idle

  -- with the world of the new history, the others as before
  still_shows : ShowsPresent last new.history
  still_shows =
      let records_now : records_on last ≡ slice_set (records_on first) p shelf.records = map-set (λ (v : View). v.records) first p shelf in
      let rows : p < length (records_on first) = let same = length-map first (λ (v : View). v.records) in omega arith in
      let shown = λ (x : Elem).
      each_or_one (records_on first) p shelf.records rows
      (λ q (records : List (Elem × Record)). lookup (is_at (elem_cmp x)) records ≡ if_here (place_of (core_in new.history) x) q (record_of (present (core_in new.history)) x)) []
      (subst (λ n. lookup (is_at (elem_cmp x)) shelf.records ≡ if_here (place_of (core_in new.history) x) n (record_of (present (core_in new.history)) x)) on (turns.consistent.shelf.objects.shown x))
      (λ q apart. consistent.objects.shown q x ∙ sym ((turns.leaves q (subst (λ n. (n == q) ≡ false) (sym was_on) apart)).seen x)) in
      subst (λ rows. Shows rows (core_in new.history).places (present (core_in new.history))) (sym records_now) (record {
        rising = recursion_from_All (λ (rs : List (Elem × Record)). IsStrictlySortedBy elem_cmp (keys_of rs)) (slice_set (records_on first) p shelf.records)
            (All-set (λ (rs : List (Elem × Record)). IsStrictlySortedBy elem_cmp (keys_of rs)) (records_on first) p shelf.records turns.consistent.shelf.objects.rising
            (All-from_recursion (λ (rs : List (Elem × Record)). IsStrictlySortedBy elem_cmp (keys_of rs)) (records_on first) consistent.objects.rising));
        placed = λ x. (now.sound.placed x).there;
        shown = λ q x. shown x q;
      })

  still_counted : IsCountedAmong last new.stock
  still_counted = λ kind.
      let here : held_in shelf new.stock kind ≡ held_in before old.stock kind = ap (λ (f : Kind → ℕ). f kind) turns.held in
      let all : supplied_to new.stock kind ≡ supplied_to old.stock kind = ap (λ (f : Kind → ℕ). f kind) turns.supplied in
      let sums : objects_among last kind + objects_on (get_or first p before) kind ≡ objects_among first kind + objects_on shelf kind = sum_by-set (λ (v : View). objects_on v kind) first p shelf before within in
      let own : objects_on (get_or first p before) kind ≡ objects_on before kind = ap (λ (v : View). objects_on v kind) (sym is) in
      let counted = consistent.census kind in
      omega arith

  pub delivered_consistent : IsTogether new
  delivered_consistent = record {
    count = ap length written ∙ length-set first p shelf ∙ consistent.count ∙ sym turns.processors;
    numbers = subst AreNumbered (sym written) still_numbered;
    idle = subst (All IsIdle) (sym written) still_idle;
    objects = subst (λ shelves. ShowsPresent shelves new.history) (sym written) still_shows;
    census = subst (λ shelves. IsCountedAmong shelves new.stock) (sym written) still_counted;
  }

-- ---- a new store

-- there is nothing on the shelf
abbrev IsBare : View → Type 0
IsBare shelf = (shelf.records ≡ []) × (shelf.phase ≡ Idle)

all_bare : (processors : ℕ) (shelves : List View) → AreEmpty processors shelves → AllByRecursion IsBare shelves
all_bare processors shelves empty =
    recursion_from_All IsBare shelves
    (λ k shelf less.
    let is : get_or shelves k shelf ≡ empty_shelf k = empty.empty k shelf (let count = empty.count in omega arith) in
    (ap (λ (v : View). v.records) is, ap (λ (v : View). v.phase) is))

bare_records : (shelves : List View) → AllByRecursion IsBare shelves → (q : ℕ) → shelf_of (records_on shelves) q ≡ []
bare_records [] bare q = refl
bare_records (shelf ∷ more) bare zero = bare.0.0
bare_records (shelf ∷ more) bare (suc q) = bare_records more bare.1 q

bare_rising : (shelves : List View) → AllByRecursion IsBare shelves → AllByRecursion (λ (records : List (Elem × Record)). IsStrictlySortedBy elem_cmp (keys_of records)) (records_on shelves)
unfolding IsStrictlySortedBy
bare_rising [] bare = tt
bare_rising (shelf ∷ more) bare = (subst (λ (records : List (Elem × Record)). IsStrictlySortedBy elem_cmp (keys_of records)) (sym bare.0.0) tt, bare_rising more bare.1)

bare_objects : (kind : Kind) (shelves : List View) → AllByRecursion IsBare shelves → objects_among shelves kind ≡ 0
bare_objects kind [] bare = refl
bare_objects kind (shelf ∷ more) bare =
    let here : objects_on shelf kind ≡ 0 = λ i. there_in (bare.0.0 i) kind + cond (is_newcomer_of kind (bare.0.1 i)) 1 0 in
    sum_by-cons (λ (v : View). objects_on v kind) shelf more ∙ (λ i. here i + bare_objects kind more bare.1 i)

-- its shelves show the new world
bare_shows : (shelves : List View) (processors : ℕ) (manifest : List (ℕ × KindVersion)) (log_end : ℕ) → AllByRecursion IsBare shelves → (core : Core) → core ≡ opened processors (new_world manifest) 0 1 log_end → Shows (records_on shelves) core.places (present core)
bare_shows shelves processors manifest log_end bare core opens =
    subst (λ (core : Core). Shows (records_on shelves) core.places (present core)) (sym opens) (record {
      rising = bare_rising shelves bare;
      placed = λ x. refl;
      shown = λ q x. ap (lookup (is_at (elem_cmp x))) (bare_records shelves bare q);
    })

pub new_consistent : {C : Type 0} {G : Ghosts C} (store : Inside C G) → IsNew (core_in store.history) → AreEmpty (core_in store.history).processors store.shelves.items →
    ((kind : Kind) → tally_in store.stock kind ≡ nothing) → IsTogether store
new_consistent store new empty none =
    let processors = (core_in store.history).processors in
    let shelves = store.shelves.items in
    let bare = all_bare processors shelves empty in
    record {
      count = empty.count;
      numbers = λ p shelf less. ap (λ (v : View). v.number) (empty.empty p shelf (let count = empty.count in omega arith));
      idle = λ p shelf less. ap (λ (v : View). v.phase) (empty.empty p shelf (let count = empty.count in omega arith));
      objects = bare_shows shelves processors new.manifest new.log_end bare (core_in store.history) new.is;
      census = λ kind.
          let supplied = ap (λ (t : Tally). t.supplied) (none kind) in
          let in_stock = ap (λ (t : Tally). t.in_stock) (none kind) in
          let retired = ap (λ (t : Tally). t.retired) (none kind) in
          let shelved = bare_objects kind shelves bare in
          omega arith;
    }
