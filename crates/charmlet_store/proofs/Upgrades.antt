-- Shelves whose objects go on in the newest versions show the world that does.
use Rattle.std.proofs.Common.{◌≡◌, ℕ, ◌+◌, ◌<◌, ◌==◌, zero, suc, true, false, cond, List, [], ◌∷◌, length, map, get_or, refl, sym, ap, subst, ◌∙◌, arith}
use Rattle.std.specs.Prelude.{Option, Some, None, is_some, option_map, slice_set, if◌then◌else◌}
use Rattle.std.specs.List.{All, AllByRecursion}
use Rattle.std.specs.List.Sorted.{IsStrictlySortedBy}
use Rattle.std.specs.BTreeMap.{is_at}
use Rattle.std.specs.Map.{lookup, keys_of, values_of}
use Rattle.std.proofs.lemmas.List.{get_or-map, length-map}
use Rattle.std.proofs.lemmas.List.Elements.{All-map}
use Rattle.std.proofs.lemmas.List.Sums.{sum_by-cons}
use Rattle.std.proofs.lemmas.Map.Made.{keys_of-map_values, lookup-map_values}
use Rattle.charmlet_model.specs.declared.names.Elem.{Elem}
use Rattle.charmlet_model.specs.declared.event.Event.{Event}
use Rattle.charmlet_model.specs.declared.kind.Kind.{Kind}
use Rattle.charmlet_model.specs.declared.state.State.{State}
use Rattle.charmlet_model.specs.declared.state.State.TheVariants as states
use Rattle.charmlet_model.specs.declared.state.Record.{Record}
use Rattle.charmlet_model.specs.Names.{elem_cmp}
use Rattle.charmlet_model.specs.Kind.{kind_number}
use Rattle.charmlet_model.specs.Reaction.{kind_of}
use Rattle.charmlet_model.specs.Core.{Core, present}
use Rattle.charmlet_model.specs.Shelves.{AddsUp, Shows, if_here, is_there_as, shelf_of, there_in}
use Rattle.charmlet_model.specs.Upgrade.{up, up_record, up_records, up_world}
use Rattle.charmlet_model.specs.World.{World, world, record_of}
use Rattle.charmlet_model.proofs.Upgrades.{record-up}
use Rattle.charmlet_chare.specs.declared.chare.Chare.{Ghosts}
use Rattle.charmlet_history.specs.Opened.{upgraded_core}
use Rattle.charmlet_shelf.specs.Count.{is_newcomer_of, objects_on}
use Rattle.charmlet_shelf.specs.Shelf.{View}
use Rattle.charmlet_stock.specs.declared.by_kind.ByKind.{ByKind}
use Rattle.charmlet_stock.specs.declared.pile.Tally.{Tally}
use Rattle.charmlet_stock.specs.declared.stock.Stock.{Stock}
use Rattle.charmlet_stock.specs.ByKind.{at}
use Rattle.charmlet_stock.specs.Stock.{blanks_in, census_of, supplied_to}
use Rattle.charmlet_migrate.specs.Moving.{IsIdle, objects_among, records_on}
use Rattle.charmlet_store.specs.declared.store.Store.TheInside.{Inside}
use Rattle.charmlet_store.proofs.Shelved.{IsTogether}
use Rattle.charmlet_migrate.specs.StoreParts.{AreNumbered}
use Rattle.charmlet_store.specs.Upgraded.{up_shelf, up_shelves}

-- ---- the first so many shelves

abbrev pub firsts : ℕ → List View → List View
firsts zero shelves = shelves
firsts (suc n) [] = []
firsts (suc n) (shelf ∷ shelves) = up_shelf shelf ∷ firsts n shelves

pub firsts_all : (shelves : List View) → firsts (length shelves) shelves ≡ up_shelves shelves
firsts_all [] = refl
firsts_all (shelf ∷ shelves) = ap (λ (rest : List View). up_shelf shelf ∷ rest) (firsts_all shelves)

pub length-firsts : (n : ℕ) (shelves : List View) → length (firsts n shelves) ≡ length shelves
length-firsts zero shelves = refl
length-firsts (suc n) [] = refl
length-firsts (suc n) (shelf ∷ shelves) = ap suc (length-firsts n shelves)

-- the next one is as it was
pub next_of : (n : ℕ) (shelves : List View) (d : View) → get_or (firsts n shelves) n d ≡ get_or shelves n d
next_of zero shelves d = refl
next_of (suc n) [] d = refl
next_of (suc n) (shelf ∷ shelves) d = next_of n shelves d

-- and one more goes on
pub one_more : (n : ℕ) (shelves : List View) (d : View) → n < length shelves → slice_set (firsts n shelves) n (up_shelf (get_or shelves n d)) ≡ firsts (suc n) shelves
one_more n [] d within = absurd (omega (arith, within))
one_more zero (shelf ∷ shelves) d within = refl
one_more (suc n) (shelf ∷ shelves) d within = ap (λ (rest : List View). up_shelf shelf ∷ rest) (one_more n shelves d (omega (arith, within)))

-- ---- their numbers, and no delivery under way

pub numbers_up : (shelves : List View) → AreNumbered shelves → AreNumbered (up_shelves shelves)
numbers_up shelves numbers = λ processor shelf within.
    let below : processor < length shelves = omega (arith, within, length-map shelves up_shelf) in
    ap (λ (v : View). v.number) (get_or-map up_shelf shelves processor shelf shelf below) ∙ numbers processor shelf below

pub idle_up : (shelves : List View) → All IsIdle shelves → All IsIdle (up_shelves shelves)
idle_up shelves idle = All-map IsIdle up_shelf shelves idle

-- ---- the world that they show

records_up : (shelves : List View) → records_on (up_shelves shelves) ≡ map up_records (records_on shelves)
records_up [] = refl
records_up (shelf ∷ shelves) = ap (λ rest. up_records shelf.records ∷ rest) (records_up shelves)

rising_up : (rs : List (List (Elem × Record))) → AllByRecursion (λ (records : List (Elem × Record)). IsStrictlySortedBy elem_cmp (keys_of records)) rs →
    AllByRecursion (λ (records : List (Elem × Record)). IsStrictlySortedBy elem_cmp (keys_of records)) (map up_records rs)
rising_up [] h = tt
rising_up (r ∷ rs) h = (subst (IsStrictlySortedBy elem_cmp) (sym (keys_of-map_values up_record r)) h.0, rising_up rs h.1)

shelf_up : (rs : List (List (Elem × Record))) (processor : ℕ) → shelf_of (map up_records rs) processor ≡ up_records (shelf_of rs processor)
shelf_up [] processor = refl
shelf_up (r ∷ rs) zero = refl
shelf_up (r ∷ rs) (suc processor) = shelf_up rs processor

is_some-up : (o : Option State) → is_some (option_map up o) ≡ is_some o
is_some-up None = refl
is_some-up (Some s) = refl

here_up : (place : Option ℕ) (processor : ℕ) (r : Record) → option_map up_record (if_here place processor r) ≡ if_here place processor (up_record r)
here_up None processor r = refl
here_up (Some place) processor r = elim (place == processor) as (λ b. option_map up_record (if b then Some r else None) ≡ (if b then Some (up_record r) else None)) [ true ↦ refl | false ↦ refl ]

pub shows_up : (rs : List (List (Elem × Record))) (places : List (Elem × ℕ)) (w : World) → Shows rs places w → Shows (map up_records rs) places (up_world w)
shows_up rs places w shows = record {
  rising = rising_up rs shows.rising;
  placed = λ x. shows.placed x ∙ sym (ap (λ (r : Record). is_some r.state) (record-up w x) ∙ is_some-up (record_of w x).state);
  shown = λ processor x.
      ap (lookup (is_at (elem_cmp x))) (shelf_up rs processor)
      ∙ lookup-map_values up_record (is_at (elem_cmp x)) (shelf_of rs processor)
      ∙ ap (option_map up_record) (shows.shown processor x)
      ∙ here_up (lookup (is_at (elem_cmp x)) places) processor (record_of w x)
      ∙ ap (if_here (lookup (is_at (elem_cmp x)) places) processor) (sym (record-up w x));
}

-- the present world goes on with the opening one
present_up : (core : Core) → core.history ≡ [] → present (upgraded_core core) ≡ up_world (present core)
present_up core new = subst (λ (es : List Event). world (up_world core.opening) es ≡ up_world (world core.opening es)) (sym new) refl

pub objects_up : (shelves : List View) (core : Core) → core.history ≡ [] → Shows (records_on shelves) core.places (present core) →
    Shows (records_on (up_shelves shelves)) core.places (present (upgraded_core core))
objects_up shelves core new shows =
    subst (λ (w : World). Shows (records_on (up_shelves shelves)) core.places w) (sym (present_up core new))
    (subst (λ rs. Shows rs core.places (up_world (present core))) (sym (records_up shelves)) (shows_up (records_on shelves) core.places (present core) shows))

-- ---- how many objects there are

kind_up : (s : State) → kind_of (up s) ≡ kind_of s
kind_up (states.FirstCounter n) = refl
kind_up (states.Counter n peak) = refl
kind_up (states.Ring next seen) = refl
kind_up (states.Account balance) = refl
kind_up (states.Sum want got total goal) = refl
kind_up (states.Tree depth) = refl
kind_up (states.Tape items) = refl

there_as_up : (kind : Kind) (o : Option State) → is_there_as kind (option_map up o) ≡ is_there_as kind o
there_as_up kind None = refl
there_as_up kind (Some s) = ap (λ k. kind_number k == kind_number kind) (kind_up s)

abbrev counted : Kind → Record → ℕ
counted kind r = cond (is_there_as kind r.state) 1 0

there_up : (rs : List (Elem × Record)) (kind : Kind) → there_in (up_records rs) kind ≡ there_in rs kind
there_up [] kind = refl
there_up (r ∷ rs) kind =
    sum_by-cons (counted kind) (up_record r.1) (values_of (up_records rs))
    ∙ (λ i. cond (there_as_up kind r.1.state i) 1 0 + there_up rs kind i)
    ∙ sym (sum_by-cons (counted kind) r.1 (values_of rs))

pub count_up : (shelves : List View) (kind : Kind) → objects_among (up_shelves shelves) kind ≡ objects_among shelves kind
count_up [] kind = refl
count_up (shelf ∷ shelves) kind =
    let newcomers = (if is_newcomer_of kind shelf.phase then 1 else 0) in
    sum_by-cons (λ (v : View). objects_on v kind) (up_shelf shelf) (up_shelves shelves)
    ∙ (λ i. (there_up shelf.records kind i + newcomers) + count_up shelves kind i)
    ∙ sym (sum_by-cons (λ (v : View). objects_on v kind) shelf shelves)

-- ---- a stock that drops what it kept

module _ {C : Type 0} {G : Ghosts C} (store : Inside C G) (stock : Stock C G) (same : census_of stock ≡ census_of store.stock) where
  -- the store is as consistent as it was
  pub dropped_consistent : IsTogether store → IsTogether (record store { stock = stock })
  dropped_consistent h = record {
    count = h.count;
    numbers = h.numbers;
    idle = h.idle;
    objects = h.objects;
    census = subst (λ (v : ByKind Tally). AddsUp (λ kind. (at v kind).supplied) (objects_among store.shelves.items) (λ kind. (at v kind).in_stock) (λ kind. (at v kind).retired)) (sym same) h.census;
  }

  -- as many blanks are there
  pub dropped_blanks : blanks_in stock ≡ blanks_in store.stock
  dropped_blanks = ap (λ (v : ByKind Tally). λ (kind : Kind). (at v kind).in_stock) same

  -- and as many objects were supplied
  pub dropped_supplied : supplied_to stock ≡ supplied_to store.stock
  dropped_supplied = ap (λ (v : ByKind Tally). λ (kind : Kind). (at v kind).supplied) same
