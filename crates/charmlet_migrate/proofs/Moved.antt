-- The shelves of a store, as two of them change.
use Rattle.std.proofs.Common.{◌≡◌, ℕ, ◌+◌, ◌-◌, ◌<◌, ◌==◌, false, List, [], ◌++◌, length, get_or, sym, ap, subst, ◌∙◌, arith}
use Rattle.std.specs.Prelude.{Some, slice_set}
use Rattle.std.specs.BTreeMap.{is_at}
use Rattle.std.specs.List.{All}
use Rattle.std.specs.List.Sorted.{IsStrictlySortedBy}
use Rattle.std.specs.Map.{lookup, keys_of}
use Rattle.std.proofs.lemmas.List.{get_or_append_left, get_or-append_right, get_or_default, get_or-set_other, length-append, length-map, length-set, map-set, set-append_left, set-append_right}
use Rattle.std.proofs.lemmas.List.Elements.{All-from_recursion, recursion_from_All, All-get_or, All-set}
use Rattle.std.proofs.lemmas.List.Sums.{sum_by-set}
use Rattle.charmlet_model.specs.declared.names.Elem.{Elem}
use Rattle.charmlet_model.specs.declared.kind.Kind.{Kind}
use Rattle.charmlet_model.specs.declared.state.Record.{Record}
use Rattle.charmlet_model.specs.Names.{elem_cmp}
use Rattle.charmlet_model.specs.World.{record_of}
use Rattle.charmlet_model.specs.Core.{Core, CoreAnswer, Move, place_of, present}
use Rattle.charmlet_model.specs.Run.{Goes}
use Rattle.charmlet_model.specs.Shelves.{Shows, if_here}
use Rattle.charmlet_model.proofs.SoundLemmas.{step_sound}
use Rattle.charmlet_chare.specs.declared.chare.Chare.{Ghosts}
use Rattle.charmlet_delivery.specs.history.History.{History}
use Rattle.charmlet_delivery.specs.Kept.{IsConsistent, core_in}
use Rattle.charmlet_shelf.specs.Count.{objects_on}
use Rattle.charmlet_shelf.specs.Shelf.{View}
use Rattle.charmlet_stock.specs.declared.stock.Stock.{Stock}
use Rattle.charmlet_stock.specs.Stock.{blanks_in, supplied_to}
use Rattle.charmlet_delivery.specs.Workplace.{store_with}
use Rattle.charmlet_migrate.specs.Moving.{IsCountedAmong, IsIdle, IsShelfOf, ShowsPresent, held_in_both, objects_among, records_on}
use Rattle.charmlet_migrate.proofs.Others.{LeavesOthers, move_leaves}
use Rattle.charmlet_migrate.specs.StoreParts.{AreNumbered, FitTogether}
use Rattle.charmlet_migrate.proofs.EachShelf.{each_or_one, number_is, shows_on}

-- ---- a list with two elements written over

module _ {X : Type 0} (xs : List X) (p q : ℕ) (y z : X) where
  abbrev pub both_set : List X
  both_set = slice_set (slice_set xs p y) q z

  -- each element is as before, or one of the two
  pub each_or_two : p < length xs → q < length xs → (P : ℕ → X → Type 0) (d : X) → P p y → P q z → ((k : ℕ) → (p == k) ≡ false → (q == k) ≡ false → P k (get_or xs k d)) → (k : ℕ) → P k (get_or both_set k d)
  each_or_two in_p in_q P d own_p own_q others =
      each_or_one (slice_set xs p y) q z (let same = length-set xs p y in omega arith) P d own_q
      (λ k not_q. each_or_one xs p y in_p (λ k (x : X). (q == k) ≡ false → P k x) d (λ _. own_p) (λ k not_p not_q. others k not_p not_q) k not_q)

-- a list in two parts: an element of the front, and the first of the back
module _ {X : Type 0} (xs front back : List X) (parts : xs ≡ front ++ back) (i n : ℕ) (long : length front ≡ n) (before : i < n) (within : n < length xs) where
  at_head : n - n ≡ 0
  at_head = omega arith

  pub front_item : (d e : X) → get_or front i d ≡ get_or xs i e
  front_item d e = get_or_default front i d e (omega arith) ∙ sym (get_or_append_left front back e i (omega arith)) ∙ ap (λ l. get_or l i e) (sym parts)

  pub back_item : (d e : X) → get_or back 0 d ≡ get_or xs n e
  back_item d e =
      let some : 0 < length back = let all = ap length parts ∙ length-append front back in omega arith in
      get_or_default back 0 d e some ∙ ap (λ k. get_or back k e) (sym at_head) ∙ sym (get_or-append_right front back n n e long (omega arith)) ∙ ap (λ l. get_or l n e) (sym parts)

  module _ (y z : X) where
    abbrev pub joined : List X
    joined = slice_set front i y ++ slice_set back 0 z

    pub joined_is : joined ≡ both_set xs i n y z
    joined_is =
        sym (ap (λ l. both_set l i n y z) parts
        ∙ ap (λ (l : List X). slice_set l n z) (set-append_left front back i y (omega arith))
        ∙ set-append_right (slice_set front i y) back n n z (length-set front i y ∙ long) (omega arith)
        ∙ ap (λ k. slice_set front i y ++ slice_set back k z) at_head)

    pub joined_is_so : joined ≡ both_set xs n i z y
    joined_is_so =
        sym (ap (λ l. both_set l n i z y) parts
        ∙ ap (λ (l : List X). slice_set l i y) (set-append_right front back n n z long (omega arith) ∙ ap (λ k. front ++ slice_set back k z) at_head)
        ∙ set-append_left front (slice_set back 0 z) i y (omega arith))

-- ---- two of the shelves

module _ {C : Type 0} {G : Ghosts C} (history : History) (shelves : List View) (stock : Stock C G) (together : FitTogether history shelves stock) where
  -- each is one of the history's
  module _ (p : ℕ) (shelf : View) (within : p < length shelves) (is : shelf ≡ get_or shelves p shelf) where
    pub shelf_number : shelf.number ≡ p
    shelf_number = number_is history shelves stock together.numbers together.count together.objects p within shelf is

    is_idle_shelf : IsIdle shelf
    is_idle_shelf = ap (λ (v : View). v.phase) is ∙ All-get_or IsIdle shelves p shelf within together.idle

    pub is_shelf_of : IsShelfOf history shelf
    is_shelf_of = record {
      part = record {
        on = let count = together.count in let number = shelf_number in omega arith;
        objects = shows_on history shelves stock together.numbers together.count together.objects p within shelf is;
      };
      idle = λ none. is_idle_shelf;
    }

  -- once an element was moved from the one to the other, or its move was refused
  module _ (consistent : IsConsistent history) (p q : ℕ) (in_p : p < length shelves) (in_q : q < length shelves) (apart : p ≡ q → ⊥)
      (source destination : View) (source_is : source ≡ get_or shelves p source) (destination_is : destination ≡ get_or shelves q destination)
      (next : History) (after : Stock C G) (x : Elem) (place : place_of (core_in history) x ≡ Some p) (answer : CoreAnswer) (goes : Goes (store_with history stock) (Move x q) answer (store_with next after))
      (left come : View) (here : IsShelfOf next left) (there : IsShelfOf next come) (left_is : left ≡ record source { records = left.records }) (come_is : come ≡ record destination { records = come.records })
      (held : held_in_both left come after ≡ held_in_both source destination stock) (supplied : supplied_to after ≡ supplied_to stock) where
    abbrev now : Core
    now = core_in next

    abbrev once : List View
    once = slice_set shelves p left

    abbrev last : List View
    last = both_set shelves p q left come

    leaves : LeavesOthers p q (core_in history) now
    leaves = move_leaves (core_in history) (blanks_in stock) x p q place (record { answer = answer; core = now; blanks = blanks_in after }) goes

    left_number : left.number ≡ p
    left_number = ap (λ (v : View). v.number) left_is ∙ shelf_number p source in_p source_is

    come_number : come.number ≡ q
    come_number = ap (λ (v : View). v.number) come_is ∙ shelf_number q destination in_q destination_is

    same_length : length last ≡ length shelves
    same_length = length-set once q come ∙ length-set shelves p left

    still_numbered : AreNumbered last
    still_numbered k d less =
        each_or_two shelves p q left come in_p in_q (λ k (v : View). k < length shelves → v.number ≡ k) d (λ _. left_number) (λ _. come_number) (λ k not_p not_q less. together.numbers k d less) k
        (let same = same_length in omega arith)

    still_idle : All IsIdle last
    still_idle =
        All-set IsIdle once q come (ap (λ (v : View). v.phase) come_is ∙ is_idle_shelf q destination in_q destination_is)
        (All-set IsIdle shelves p left (ap (λ (v : View). v.phase) left_is ∙ is_idle_shelf p source in_p source_is) together.idle)

    abbrev Rising : List (Elem × Record) → Type 0
    Rising records = IsStrictlySortedBy elem_cmp (keys_of records)

    abbrev rows : List (List (Elem × Record))
    rows = records_on shelves

    rows_are : records_on last ≡ both_set rows p q left.records come.records
    rows_are = map-set (λ (v : View). v.records) once q come ∙ ap (λ rows. slice_set rows q come.records) (map-set (λ (v : View). v.records) shelves p left)

    still_shows : ShowsPresent last next
    still_shows =
        let many = length-map shelves (λ (v : View). v.records) in
        let row_p : p < length rows = omega arith in
        let row_q : q < length rows = omega arith in
        subst (λ rows. Shows rows now.places (present now)) (sym rows_are) (record {
          rising = recursion_from_All Rising (both_set rows p q left.records come.records)
              (All-set Rising (slice_set rows p left.records) q come.records there.part.objects.rising
              (All-set Rising rows p left.records here.part.objects.rising (All-from_recursion Rising rows together.objects.rising)));
          placed = λ y. ((step_sound (core_in history) (blanks_in stock) (Move x q) (record { answer = answer; core = now; blanks = blanks_in after }) consistent.sound tt goes).placed y).there;
          shown = λ k y.
              each_or_two rows p q left.records come.records row_p row_q
              (λ k (records : List (Elem × Record)). lookup (is_at (elem_cmp y)) records ≡ if_here (place_of now y) k (record_of (present now) y)) []
              (subst (λ n. lookup (is_at (elem_cmp y)) left.records ≡ if_here (place_of now y) n (record_of (present now) y)) left_number (here.part.objects.shown y))
              (subst (λ n. lookup (is_at (elem_cmp y)) come.records ≡ if_here (place_of now y) n (record_of (present now) y)) come_number (there.part.objects.shown y))
              (λ k not_p not_q. together.objects.shown k y ∙ sym (leaves.elsewhere k not_p not_q y)) k;
        })

    still_counted : IsCountedAmong last after
    still_counted kind =
        let both : held_in_both left come after kind ≡ held_in_both source destination stock kind = ap (λ (f : Kind → ℕ). f kind) held in
        let all : supplied_to after kind ≡ supplied_to stock kind = ap (λ (f : Kind → ℕ). f kind) supplied in
        let first : objects_among once kind + objects_on (get_or shelves p source) kind ≡ objects_among shelves kind + objects_on left kind = sum_by-set (λ (v : View). objects_on v kind) shelves p left source in_p in
        let second : objects_among last kind + objects_on (get_or once q destination) kind ≡ objects_among once kind + objects_on come kind = sum_by-set (λ (v : View). objects_on v kind) once q come destination (let same = length-set shelves p left in omega arith) in
        let own : objects_on (get_or shelves p source) kind ≡ objects_on source kind = ap (λ (v : View). objects_on v kind) (sym source_is) in
        let other : objects_on (get_or once q destination) kind ≡ objects_on destination kind =
        ap (λ (v : View). objects_on v kind) (get_or-set_other shelves p q left destination (λ same. apart (sym same)) ∙ sym destination_is) in
        let counted = together.census kind in
        omega arith

    pub moved_together : FitTogether next last after
    moved_together = record {
      count = same_length ∙ together.count ∙ sym leaves.processors;
      numbers = still_numbered;
      idle = still_idle;
      objects = still_shows;
      census = still_counted;
    }
