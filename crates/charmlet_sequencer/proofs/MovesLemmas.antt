-- The authority of shelves, as an element moves from one to another.
use Rattle.std.proofs.Common.{◌≡◌, ℕ, ◌+◌, ◌<◌, ◌==◌, true, false, cond, List, [], length, get_or, refl, sym, ap, subst, ◌∙◌, arith}
use Rattle.std.specs.Prelude.{Option, Some, None, IfSome, slice_get, slice_set, option_and_then}
use Rattle.std.specs.Ordering.{nat_cmp}
use Rattle.std.specs.BTreeMap.{insert_entry, is_at}
use Rattle.std.specs.List.Sorted.{IsStrictlySortedBy}
use Rattle.std.specs.Map.{lookup, keys_of}
use Rattle.std.proofs.lemmas.List.{get_or-set_other, length-set, length-map, map-set}
use Rattle.std.proofs.lemmas.List.Elements.{All-from_recursion, recursion_from_All, All-set}
use Rattle.std.proofs.lemmas.List.Sums.{sum_by-set}
use Rattle.charmlet_model.specs.declared.names.Elem.{Elem}
use Rattle.charmlet_model.specs.declared.kind.Kind.{Kind}
use Rattle.charmlet_model.specs.declared.state.Record.{Record}
use Rattle.charmlet_model.specs.Names.{elem_cmp}
use Rattle.charmlet_model.specs.World.{World, version_of_array, message_among, record_of}
use Rattle.charmlet_model.specs.Core.{Blanks, Core, CoreAnswer, Move, Stepped, Steps, assigned_to, pending_message, place_of, place_or_home, present}
use Rattle.charmlet_model.specs.Run.{Goes}
use Rattle.charmlet_model.specs.Shelves.{Shows, if_here}
use Rattle.charmlet_model.specs.Sound.{IsSound}
use Rattle.charmlet_chare.specs.declared.chare.Chare.{Ghosts}
use Rattle.charmlet_history.specs.declared.history.History.{History}
use Rattle.charmlet_history.specs.Kept.{core_in}
use Rattle.charmlet_shelf.specs.Count.{objects_on}
use Rattle.charmlet_shelf.specs.Due.{Due}
use Rattle.charmlet_shelf.specs.Shelf.{View}
use Rattle.charmlet_shelf.specs.declared.phase.Phase.{Phase}
use Rattle.charmlet_shelf.specs.declared.phase.Phase.TheVariants as phases
use Rattle.charmlet_stock.specs.declared.stock.Stock.{Stock}
use Rattle.charmlet_stock.specs.Stock.{blanks_in, supplied_to, tally_in}
use Rattle.charmlet_delivery.specs.UnderWay.{IsUnderWay, due_in}
use Rattle.charmlet_delivery.specs.Workplace.{ShowsOn, store_with}
use Rattle.charmlet_delivery.proofs.Places.{stepped_core}
use Rattle.charmlet_migrate.specs.Moving.{IsShelfOf, held_in_both}
use Rattle.charmlet_migrate.proofs.Others.{LeavesOthers, move_leaves}
use Rattle.charmlet_migrate.proofs.Moved.{both_set, each_or_two}
use Rattle.charmlet_sequencer.specs.Authority.{IsAuthorityOf, IsDueOn, objects_in_all, part_at, part_in, records_in}
use Rattle.charmlet_sequencer.specs.Part.{Part, objects_in, part_on}
use Rattle.charmlet_sequencer.proofs.Authorities.{objects_are, part_is, ready, there_at}

-- ---- what is assigned to a processor

no_due : (core : Core) (p : ℕ) (due : Due) → IsUnderWay core p due → assigned_to core p ≡ None → ⊥
no_due core p due is none = let never : None ≡ Some due.message = ap (option_and_then (pending_message core)) (sym none) ∙ is.message in let no : ⊥ = cc in no

-- where nothing is, no delivery is under way
idle_by : (core : Core) (p : ℕ) (phase : Phase) → IfSome (due_in phase) (IsUnderWay core p) → assigned_to core p ≡ None → phase ≡ phases.Idle
idle_by core p phases.Idle due none = refl
idle_by core p (phases.Assigned due) is none = absurd (no_due core p due is none)
idle_by core p (phases.Done done) is none = absurd (no_due core p done.due is none)

-- a move leaves what is assigned, and the world
pub record KeepsDues (core next : Core) : Type 0 where
  pub assigned : next.assigned ≡ core.assigned
  pub world : present next ≡ present core

pub move_keeps : (core : Core) (blanks : Blanks) (x : Elem) (q : ℕ) (last : Stepped) → Steps core blanks (Move x q) last → KeepsDues core last.core
move_keeps core blanks x q last steps =
    stepped_core (KeepsDues core) core blanks (Move x q) (record { assigned = refl; world = refl }) (record { assigned = refl; world = refl })
    (elim (place_or_home core x == q) as (λ b. KeepsDues core (cond b core (record core { places = insert_entry elem_cmp core.places x q }))) [
      | true ↦ record { assigned = refl; world = refl }
      | false ↦ record { assigned = refl; world = refl }
    ])
    last steps

due_kept : (core next : Core) → KeepsDues core next → (p : ℕ) (o : Option Due) → IsDueOn core p o → IsDueOn next p o
due_kept core next keeps p None none = ap (lookup (is_at (nat_cmp p))) keeps.assigned ∙ none
due_kept core next keeps p (Some due) on = record {
  message = (λ i. option_and_then (λ id. message_among id (keeps.world i).pending) (lookup (is_at (nat_cmp p)) (keeps.assigned i))) ∙ on.message;
  kind_version = ap (λ (w : World). version_of_array w due.message.to.array) keeps.world ∙ on.kind_version;
  receiver = ap (λ (w : World). record_of w due.message.to) keeps.world ∙ on.receiver;
  reacts = on.reacts;
}

-- ---- two shelves of the authority

module _ {C : Type 0} {G : Ghosts C} (history : History) (stock : Stock C G) (parts : List (Option Part)) (authority : IsAuthorityOf history stock parts) where
  -- each is one of the history's
  pub shelf_of_authority : (shelf : View) → slice_get parts shelf.number ≡ Some (Some (part_on shelf)) → IsShelfOf history shelf
  shelf_of_authority shelf there =
      let work = ready history stock parts authority shelf there in
      record { part = work.shelf; idle = idle_by (core_in history) shelf.number shelf.phase work.due }

  -- and then both parts are written
  module _ (from to : View) (there_from : slice_get parts from.number ≡ Some (Some (part_on from))) (there_to : slice_get parts to.number ≡ Some (Some (part_on to))) (apart : from.number ≡ to.number → ⊥)
      (next : History) (after : Stock C G) (x : Elem) (place : place_of (core_in history) x ≡ Some from.number) (answer : CoreAnswer) (goes : Goes (store_with history stock) (Move x to.number) answer (store_with next after)) (sound : IsSound (core_in next))
      (left come : View) (here : IsShelfOf next left) (there : IsShelfOf next come) (left_is : left ≡ record from { records = left.records }) (come_is : come ≡ record to { records = come.records })
      (held : held_in_both left come after ≡ held_in_both from to stock) (supplied : supplied_to after ≡ supplied_to stock) where
    abbrev core : Core
    core = core_in history

    abbrev now : Core
    now = core_in next

    abbrev p : ℕ
    p = from.number

    abbrev q : ℕ
    q = to.number

    abbrev last : Stepped
    last = record { answer = answer; core = now; blanks = blanks_in after }

    leaves : LeavesOthers p q core now
    leaves = move_leaves core (blanks_in stock) x p q place last goes

    keeps : KeepsDues core now
    keeps = move_keeps core (blanks_in stock) x q last goes

    read_from : (p < length parts) × (get_or parts p None ≡ Some (part_on from))
    read_from = there_at parts p (Some (part_on from)) None there_from

    read_to : (q < length parts) × (get_or parts q None ≡ Some (part_on to))
    read_to = there_at parts q (Some (part_on to)) None there_to

    abbrev once : List (Option Part)
    once = slice_set parts p (Some (part_on left))

    abbrev written : List (Option Part)
    written = both_set parts p q (Some (part_on left)) (Some (part_on come))

    same_length : length written ≡ length parts
    same_length = length-set once q (Some (part_on come)) ∙ length-set parts p (Some (part_on left))

    -- what they show
    abbrev Rising : List (Elem × Record) → Type 0
    Rising rs = IsStrictlySortedBy elem_cmp (keys_of rs)

    abbrev row : Option Part → List (Elem × Record)
    row o = (part_in o).records

    abbrev rows : List (List (Elem × Record))
    rows = records_in parts

    here_now : ShowsOn p left.records now.places (present now)
    here_now = subst (λ n. ShowsOn n left.records now.places (present now)) (ap (λ (v : View). v.number) left_is) here.part.objects

    there_now : ShowsOn q come.records now.places (present now)
    there_now = subst (λ n. ShowsOn n come.records now.places (present now)) (ap (λ (v : View). v.number) come_is) there.part.objects

    rows_are : records_in written ≡ both_set rows p q left.records come.records
    rows_are = map-set row once q (Some (part_on come)) ∙ ap (λ rows. slice_set rows q come.records) (map-set row parts p (Some (part_on left)))

    shows_now : Shows (records_in written) now.places (present now)
    shows_now =
        let many = length-map parts row in
        let row_p : p < length rows = let less = read_from.0 in omega arith in
        let row_q : q < length rows = let less = read_to.0 in omega arith in
        subst (λ rows. Shows rows now.places (present now)) (sym rows_are) (record {
          rising = recursion_from_All Rising (both_set rows p q left.records come.records)
              (All-set Rising (slice_set rows p left.records) q come.records there_now.rising
              (All-set Rising rows p left.records here_now.rising (All-from_recursion Rising rows authority.shows.rising)));
          placed = λ y. (sound.placed y).there;
          shown = λ k y.
              each_or_two rows p q left.records come.records row_p row_q
              (λ k (records : List (Elem × Record)). lookup (is_at (elem_cmp y)) records ≡ if_here (place_of now y) k (record_of (present now) y)) []
              (here_now.shown y) (there_now.shown y)
              (λ k not_p not_q. authority.shows.shown k y ∙ sym (leaves.elsewhere k not_p not_q y)) k;
        })

    -- what is under way there
    due_as : (shelf new : View) → new ≡ record shelf { records = new.records } → slice_get parts shelf.number ≡ Some (Some (part_on shelf)) → shelf.number < length parts → IsDueOn now shelf.number (due_in new.phase)
    due_as shelf new is at less =
        due_kept core now keeps shelf.number (due_in new.phase)
        (subst (λ phase. IsDueOn core shelf.number (due_in phase)) (sym (ap (λ (v : View). v.phase) is))
        (subst (λ (part : Part). IsDueOn core shelf.number part.due) (part_is history stock parts authority shelf at) (authority.dues shelf.number less)))

    dues_now : (k : ℕ) → k < length written → IsDueOn now k (part_at written k).due
    dues_now k less =
        each_or_two parts p q (Some (part_on left)) (Some (part_on come)) read_from.0 read_to.0 (λ k (o : Option Part). k < length parts → IsDueOn now k (part_in o).due) None
        (λ less. due_as from left left_is there_from less) (λ less. due_as to come come_is there_to less)
        (λ k not_p not_q less. due_kept core now keeps k (part_at parts k).due (authority.dues k less)) k
        (let same = same_length in omega arith)

    -- how many objects they have
    counted_now : (kind : Kind) → supplied_to after kind ≡ objects_in_all written kind + blanks_in after kind + (tally_in after kind).retired
    counted_now kind =
        let count = λ (o : Option Part). objects_in (part_in o) kind in
        let both : held_in_both left come after kind ≡ held_in_both from to stock kind = ap (λ (f : Kind → ℕ). f kind) held in
        let all : supplied_to after kind ≡ supplied_to stock kind = ap (λ (f : Kind → ℕ). f kind) supplied in
        let first : objects_in_all once kind + objects_in (part_at parts p) kind ≡ objects_in_all parts kind + objects_in (part_on left) kind = sum_by-set count parts p (Some (part_on left)) None read_from.0 in
        let second : objects_in_all written kind + objects_in (part_at once q) kind ≡ objects_in_all once kind + objects_in (part_on come) kind =
        sum_by-set count once q (Some (part_on come)) None (let same = length-set parts p (Some (part_on left)) in let less = read_to.0 in omega arith) in
        let still : objects_in (part_at once q) kind ≡ objects_in (part_at parts q) kind = ap count (get_or-set_other parts p q (Some (part_on left)) None (λ same. apart (sym same))) in
        let own : objects_in (part_at parts p) kind ≡ objects_on from kind = ap (λ part. objects_in part kind) (part_is history stock parts authority from there_from) ∙ sym (objects_are from kind) in
        let other : objects_in (part_at parts q) kind ≡ objects_on to kind = ap (λ part. objects_in part kind) (part_is history stock parts authority to there_to) ∙ sym (objects_are to kind) in
        let own_now : objects_on left kind ≡ objects_in (part_on left) kind = objects_are left kind in
        let other_now : objects_on come kind ≡ objects_in (part_on come) kind = objects_are come kind in
        let counted = authority.census kind in
        omega arith

    pub authority_moved : IsAuthorityOf next after written
    authority_moved = record {
      count = same_length ∙ authority.count ∙ sym leaves.processors;
      shows = shows_now;
      dues = dues_now;
      census = counted_now;
    }
