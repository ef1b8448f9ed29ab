-- The authority of shelves, as the history changes.
use Rattle.std.proofs.Common.{◌≡◌, ℕ, zero, suc, ◌+◌, ◌<◌, ◌≤◌, cond, List, [], ◌∷◌, length, get_or, refl, sym, ap, subst, ◌∙◌, arith}
use Rattle.std.specs.Prelude.{Option, Some, None, IfSome, slice_get, slice_set, option_and_then}
use Rattle.std.specs.Ordering.{nat_cmp}
use Rattle.std.specs.BTreeMap.{is_at}
use Rattle.std.specs.List.Sorted.{IsStrictlySortedBy}
use Rattle.std.specs.Map.{lookup, keys_of}
use Rattle.std.proofs.Math.ListN.{get_or-map}
use Rattle.std.proofs.lemmas.List.{length-set, length-map, map-set}
use Rattle.std.proofs.lemmas.List.Elements.{All-from_recursion, recursion_from_All, All-get_or, All-set}
use Rattle.std.proofs.lemmas.List.Sums.{get_or-le-sum_by, sum_by-set}
use Rattle.charmlet_model.specs.declared.names.Elem.{Elem}
use Rattle.charmlet_model.specs.declared.names.MsgId.{MsgId}
use Rattle.charmlet_model.specs.declared.kind.Kind.{Kind}
use Rattle.charmlet_model.specs.declared.state.Record.{Record}
use Rattle.charmlet_model.specs.Names.{elem_cmp}
use Rattle.charmlet_model.specs.World.{record_of}
use Rattle.charmlet_model.specs.Core.{Core, assigned_to, pending_message, place_of, present}
use Rattle.charmlet_model.specs.Shelves.{Shows, if_here, shelf_of, there_in}
use Rattle.charmlet_model.specs.Sound.{IsSound}
use Rattle.charmlet_chare.specs.declared.chare.Chare.{Ghosts}
use Rattle.charmlet_history.specs.declared.history.History.{History}
use Rattle.charmlet_history.specs.Kept.{core_in}
use Rattle.charmlet_shelf.specs.Count.{is_newcomer_of, objects_on}
use Rattle.charmlet_shelf.specs.Due.{Due}
use Rattle.charmlet_shelf.specs.Shelf.{View}
use Rattle.charmlet_shelf.specs.declared.phase.Phase.{Phase}
use Rattle.charmlet_shelf.specs.declared.phase.Phase.TheVariants as phases
use Rattle.charmlet_stock.specs.declared.stock.Stock.{Stock}
use Rattle.charmlet_stock.specs.Stock.{supplied_to}
use Rattle.charmlet_delivery.specs.Leaves.{Leaves}
use Rattle.charmlet_delivery.specs.Turns.{Turns}
use Rattle.charmlet_delivery.specs.UnderWay.{IsUnderWay, due_in}
use Rattle.charmlet_delivery.specs.Workplace.{IsConsistentWorkplace, IsFreeIfIdle, IsWithin, ShowsOn, held_in, workplace_of}
use Rattle.charmlet_migrate.proofs.EachShelf.{each_or_one}
use Rattle.charmlet_sequencer.specs.Authority.{IsAuthorityOf, IsDueOn, objects_in_all, part_at, part_in, records_in}
use Rattle.charmlet_sequencer.specs.Part.{Part, brings, objects_in, part_on}

-- ---- one of a list

pub there_at : {A : Type 0} (xs : List A) (p : ℕ) (x d : A) → slice_get xs p ≡ Some x → (p < length xs) × (get_or xs p d ≡ x)
there_at [] p x d e = absurd (let never : ⊥ = cc in never)
there_at (y ∷ ys) zero x d e = (omega arith, cc)
there_at (y ∷ ys) (suc p) x d e = let rest = there_at ys p x d e in (let less = rest.0 in omega arith, rest.1)

-- ---- the part of a shelf

newcomer_by : (kind : Kind) (phase : Phase) → is_newcomer_of kind phase ≡ brings kind (due_in phase)
newcomer_by kind phases.Idle = refl
newcomer_by kind (phases.Assigned due) = refl
newcomer_by kind (phases.Done done) = refl

pub objects_are : (shelf : View) (kind : Kind) → objects_on shelf kind ≡ objects_in (part_on shelf) kind
objects_are shelf kind = ap (λ b. there_in shelf.records kind + cond b 1 0) (newcomer_by kind shelf.phase)

-- ---- what is assigned to a processor

-- by the phase of its shelf
due_by : (core : Core) (p : ℕ) (o : Option Due) → IfSome o (IsUnderWay core p) → (o ≡ None → assigned_to core p ≡ None) → IsDueOn core p o
due_by core p None some none = none refl
due_by core p (Some due) some none = some

under_way_by : (core : Core) (p : ℕ) (o : Option Due) → IsDueOn core p o → IfSome o (IsUnderWay core p)
under_way_by core p None due = tt
under_way_by core p (Some due) is = is

free_by : (core : Core) (p : ℕ) (o : Option Due) → IsDueOn core p o → o ≡ None → assigned_to core p ≡ None
free_by core p None none _ = none
free_by core p (Some due) is none = absurd (let never : ⊥ = cc in never)

and_then_some : {A B : Type 0} (f : A → Option B) (o : Option A) (y : B) → option_and_then f o ≡ Some y → (x : A) × (o ≡ Some x) × (f x ≡ Some y)
and_then_some f None y h = absurd (let never : ⊥ = cc in never)
and_then_some f (Some x) y h = (x, refl, h)

-- it stays so where a step leaves the processor
pub due_stays : (core next : Core) (q : ℕ) → Leaves q core next → (o : Option Due) → IsDueOn core q o → IsDueOn next q o
due_stays core next q leaves None none = leaves.assigned ∙ none
due_stays core next q leaves (Some due) on =
    let its : (id : MsgId) × (assigned_to core q ≡ Some id) × (pending_message core id ≡ Some due.message) = and_then_some (pending_message core) (assigned_to core q) due.message on.message in
    record {
      message = ap (option_and_then (pending_message next)) (leaves.assigned ∙ its.1) ∙ leaves.pending its.0 due.message its.1 its.2;
      kind_version = ap (lookup (is_at (nat_cmp due.message.to.array))) leaves.manifest ∙ on.kind_version;
      receiver = leaves.receiver its.0 due.message its.1 its.2 ∙ on.receiver;
      reacts = on.reacts;
    }

-- ---- a shelf of the authority

module _ {C : Type 0} {G : Ghosts C} (history : History) (stock : Stock C G) (parts : List (Option Part)) (authority : IsAuthorityOf history stock parts) (shelf : View) (there : slice_get parts shelf.number ≡ Some (Some (part_on shelf))) where
  abbrev core : Core
  core = core_in history

  abbrev p : ℕ
  p = shelf.number

  abbrev read : (p < length parts) × (get_or parts p None ≡ Some (part_on shelf))
  read = there_at parts p (Some (part_on shelf)) None there

  pub part_is : part_at parts p ≡ part_on shelf
  part_is = ap part_in read.1

  row_is : shelf_of (records_in parts) p ≡ shelf.records
  row_is = get_or-map (λ (o : Option Part). (part_in o).records) parts p None ∙ ap (λ (part : Part). part.records) part_is

  here : ShowsOn p shelf.records core.places (present core)
  here = subst (λ rs. ShowsOn p rs core.places (present core)) row_is (record {
    rising = All-get_or (λ (rs : List (Elem × Record)). IsStrictlySortedBy elem_cmp (keys_of rs)) (records_in parts) p [] (let less = read.0 in let same = length-map parts (λ (o : Option Part). (part_in o).records) in omega arith)
        (All-from_recursion (λ (rs : List (Elem × Record)). IsStrictlySortedBy elem_cmp (keys_of rs)) (records_in parts) authority.shows.rising);
    shown = λ x. authority.shows.shown p x;
  })

  within : IsWithin shelf stock
  within = λ kind.
      let all = authority.census kind in
      let own : objects_in (part_at parts p) kind ≤ objects_in_all parts kind = get_or-le-sum_by (λ (o : Option Part). objects_in (part_in o) kind) parts p None read.0 in
      let same : objects_on shelf kind ≡ objects_in (part_at parts p) kind = objects_are shelf kind ∙ ap (λ part. objects_in part kind) (sym part_is) in
      omega arith

  due_here : IsDueOn core p (due_in shelf.phase)
  due_here = subst (λ (part : Part). IsDueOn core p part.due) part_is (authority.dues p read.0)

  -- a part of a delivery may be done there
  pub ready : IsConsistentWorkplace (workplace_of history shelf stock)
  ready = record {
    shelf = record { on = let less = read.0 in let count = authority.count in omega arith; objects = here };
    due = under_way_by core p (due_in shelf.phase) due_here;
    census = within;
  }

  pub free : IsFreeIfIdle (workplace_of history shelf stock)
  free = free_by core p (due_in shelf.phase) due_here

  -- and then the part of the shelf is written
  module _ (next : History) (last : View) (after : Stock C G) (sound : IsSound (core_in next)) (turns : Turns (workplace_of history shelf stock) (workplace_of next last after)) where
    abbrev core_next : Core
    core_next = core_in next

    abbrev written : List (Option Part)
    written = slice_set parts p (Some (part_on last))

    abbrev Rising : List (Elem × Record) → Type 0
    Rising rs = IsStrictlySortedBy elem_cmp (keys_of rs)

    objects_now : ShowsOn p last.records core_next.places (present core_next)
    objects_now = subst (λ n. ShowsOn n last.records core_next.places (present core_next)) turns.number turns.consistent.shelf.objects

    shows_now : Shows (records_in written) core_next.places (present core_next)
    shows_now =
        let rows : p < length (records_in parts) = let less = read.0 in let same = length-map parts (λ (o : Option Part). (part_in o).records) in omega arith in
        subst (λ rows. Shows rows core_next.places (present core_next)) (sym (map-set (λ (o : Option Part). (part_in o).records) parts p (Some (part_on last)))) (record {
          rising = recursion_from_All Rising (slice_set (records_in parts) p last.records)
              (All-set Rising (records_in parts) p last.records objects_now.rising (All-from_recursion Rising (records_in parts) authority.shows.rising));
          placed = λ x. (sound.placed x).there;
          shown = λ q x.
              each_or_one (records_in parts) p last.records rows
              (λ q (records : List (Elem × Record)). lookup (is_at (elem_cmp x)) records ≡ if_here (place_of core_next x) q (record_of (present core_next) x)) []
              (objects_now.shown x) (λ q apart. authority.shows.shown q x ∙ sym ((turns.leaves q apart).seen x)) q;
        })

    due_now : IsDueOn core_next p (due_in last.phase)
    due_now = subst (λ n. IsDueOn core_next n (due_in last.phase)) turns.number
        (due_by core_next last.number (due_in last.phase) turns.consistent.due (turns.free free))

    dues_now : (q : ℕ) → q < length written → IsDueOn core_next q (part_at written q).due
    dues_now q less =
        each_or_one parts p (Some (part_on last)) read.0 (λ q (o : Option Part). q < length parts → IsDueOn core_next q (part_in o).due) None (λ _. due_now)
        (λ q apart less. due_stays core core_next q (turns.leaves q apart) (part_at parts q).due (authority.dues q less)) q
        (let same = length-set parts p (Some (part_on last)) in omega arith)

    pub authority_again : IsAuthorityOf next after written
    authority_again = record {
      count = length-set parts p (Some (part_on last)) ∙ authority.count ∙ sym turns.processors;
      shows = shows_now;
      dues = dues_now;
      census = λ kind.
          let held : held_in last after kind ≡ held_in shelf stock kind = ap (λ (f : Kind → ℕ). f kind) turns.held in
          let all : supplied_to after kind ≡ supplied_to stock kind = ap (λ (f : Kind → ℕ). f kind) turns.supplied in
          let sums : objects_in_all written kind + objects_in (part_at parts p) kind ≡ objects_in_all parts kind + objects_in (part_on last) kind =
          sum_by-set (λ (o : Option Part). objects_in (part_in o) kind) parts p (Some (part_on last)) None read.0 in
          let own : objects_in (part_at parts p) kind ≡ objects_on shelf kind = ap (λ part. objects_in part kind) part_is ∙ sym (objects_are shelf kind) in
          let new : objects_on last kind ≡ objects_in (part_on last) kind = objects_are last kind in
          let counted = authority.census kind in
          omega arith;
    }

-- ---- steps that are about no shelf

pub authority_still : {C : Type 0} {G : Ghosts C} (history next : History) (stock : Stock C G) (parts : List (Option Part)) → IsAuthorityOf history stock parts → IsSound (core_in next) →
    ((q : ℕ) → Leaves q (core_in history) (core_in next)) → IsAuthorityOf next stock parts
authority_still history next stock parts authority sound leaves = record {
  count = authority.count ∙ sym (leaves 0).processors;
  shows = record {
    rising = authority.shows.rising;
    placed = λ x. (sound.placed x).there;
    shown = λ q x. authority.shows.shown q x ∙ sym ((leaves q).seen x);
  };
  dues = λ q less. due_stays (core_in history) (core_in next) q (leaves q) (part_at parts q).due (authority.dues q less);
  census = authority.census;
}
