-- A move between two shelves that are lent to the sequencer.
use Rattle.std.proofs.Common.{◌≡◌, ℕ, ◌==◌, Bool, true, false, cond, not, ◌||◌, List, [], ◌∷◌, ◌++◌, Result, Ok, Err, inl, inr, refl, sym, ap, subst, ◌∙◌}
use Rattle.std.specs.Prelude.{Option, Some, None, OnErr, OnOk, is_some, slice_get, unwrap_or}
use Rattle.std.specs.BTreeMap.{is_at}
use Rattle.std.specs.Cmp.{nat_eq_equiv}
use Rattle.std.specs.Map.{lookup}
use Rattle.std.proofs.lemmas.Bool.{lt-ltb, ne_eqb}
use Rattle.charmlet_model.specs.declared.kind_version.KindVersion.{KindVersion}
use Rattle.charmlet_model.specs.declared.names.Elem.{Elem}
use Rattle.charmlet_model.specs.declared.refusal.Refusal.{Refusal}
use Rattle.charmlet_model.specs.declared.refusal.Refusal.TheVariants as refusals
use Rattle.charmlet_model.specs.declared.state.Record.{Record}
use Rattle.charmlet_model.specs.Names.{elem_cmp}
use Rattle.charmlet_model.specs.World.{World, version_of_array, record_of}
use Rattle.charmlet_model.specs.Core.{Blanks, Core, CoreStep, Done, MayLackMemory, Move, Refuses, Stepped, Steps, When, assigned_to, away_checks, checks, first_refusal, home, is_present, is_processor, lacks_blank, next_core, place_of, place_or_home, present, stepped_unless}
use Rattle.charmlet_model.specs.Run.{Goes}
use Rattle.charmlet_model.specs.Sound.{IsSound}
use Rattle.charmlet_model.proofs.CoreLemmas.{refusals_change_nothing}
use Rattle.charmlet_model.proofs.DeviceLemmas.{only_writes_fail}
use Rattle.charmlet_model.proofs.Maps.{elem_exact, elem_total, same_maps}
use Rattle.charmlet_chare.specs.declared.chare.Chare as chares
use Rattle.charmlet_disk.specs.declared.disk.Disk as disks
use Rattle.charmlet_halves.specs.declared.halves.Halves.{Halves}
use Rattle.charmlet_halves.specs.Halves.{disk_of}
use Rattle.charmlet_history.specs.declared.history.History.{History}
use Rattle.charmlet_history.specs.Kept.{blank_of_move, core_in, plenty}
use Rattle.charmlet_persist.specs.Writes.Quiet.{Quiet}
use Rattle.charmlet_persist.proofs.WritesLemmas.Quietness.{quiet_step}
use Rattle.charmlet_shelf.specs.Shelf.{View}
use Rattle.charmlet_shelf.specs.declared.phase.Phase.TheVariants.{Idle}
use Rattle.charmlet_stock.specs.declared.stock.Stock.{Stock}
use Rattle.charmlet_stock.specs.Stock.{blanks_in, census_of, keeping_of, supplied_to}
use Rattle.charmlet_delivery.specs.Workplace.{ShowsOn, done_or_refused, store_with}
use Rattle.charmlet_migrate.specs.Copying.{with_copy}
use Rattle.charmlet_migrate.specs.Moving.{IsShelfOf, held_in_both}
use Rattle.charmlet_migrate.proofs.CanMove.{CanGo, destination_stays, idle_both, is_there, is_wanted, source_stays, without}
use Rattle.charmlet_migrate.proofs.Carried.{stands}
use Rattle.charmlet_migrate.proofs.MoveChecks.{stays_there}
use Rattle.charmlet_migrate.proofs.Others.{LeavesOthers, move_leaves}
use Rattle.charmlet_migrate.proofs.Moved.{both_set}
use Rattle.charmlet_sequencer.specs.Authority.{IsAuthorityOf}
use Rattle.charmlet_sequencer.specs.Relocating.{Carries, IsAway, StaysOrLeaves}
use Rattle.charmlet_sequencer.specs.Part.{Part, part_on}
use Rattle.charmlet_sequencer.specs.Sequencer.{HasOpened}
use Rattle.charmlet_sequencer.specs.Together.{AreTied, shown_by}
use Rattle.charmlet_sequencer.proofs.Calls.{opened_again, tied_again}
use Rattle.charmlet_sequencer.proofs.MovesLemmas.{authority_moved, shelf_of_authority}

-- ---- before a shelf is lent

-- from an element's place, only an assigned message keeps it where blanks are plenty
late_away : (busy : Bool) (wanted : Option KindVersion) (refusal : Refusal) → first_refusal (When busy refusals.Uncommitted ∷ (lacks_blank plenty wanted ++ MayLackMemory ∷ [])) ≡ Some refusal → refusal ≡ refusals.Uncommitted
late_away true wanted refusal is = cc
late_away false None refusal is = absurd (let never : ⊥ = cc in never)
late_away false (Some kind_version) refusal is = absurd (let never : ⊥ = cc in never)

module _ (core : Core) (x : Elem) (q : ℕ) (sound : IsSound core) where
  abbrev stays_on : Bool
  stays_on = place_or_home core x == q

  its_place : (place : ℕ) → place_of core x ≡ Some place → place_or_home core x ≡ place
  its_place place is = ap (λ o. unwrap_or o (home x core.processors)) is

  -- one that is elsewhere isn't where its place is
  apart_from : stays_on ≡ false → (place : ℕ) → place_of core x ≡ Some place → place ≡ q → ⊥
  apart_from elsewhere place is same =
      let never : true ≡ false = sym (nat_eq_equiv.refl q) ∙ ap (λ n. n == q) (sym same ∙ sym (its_place place is)) ∙ elsewhere in
      let no : ⊥ = cc in no

  -- where no blank is wanted, it is there already
  is_here : None ≡ blank_of_move core x q → first_refusal (checks core plenty (Move x q)) ≡ None → stays_on ≡ true
  is_here unwanted can = elim stays_on as (λ b. stays_on ≡ b → stays_on ≡ true) [
    | true ↦ λ same. same
    | false ↦ λ elsewhere. by elsewhere (place_of core x) refl
  ] refl
    where
      by : stays_on ≡ false → (place : Option ℕ) → place_of core x ≡ place → stays_on ≡ true
      by elsewhere None nowhere =
          absurd (let never : false ≡ true = ap is_some (sym nowhere) ∙ (sound.placed x).there ∙ is_there core x q can in let no : ⊥ = cc in no)
      by elsewhere (Some place) at =
          absurd (is_wanted core x place q (record { sound = sound; place = at; apart = apart_from elsewhere place at; can = can }) (sym unwanted))

  -- and the move is done
  pub stays : (blanks : Blanks) → None ≡ blank_of_move core x q → first_refusal (checks core plenty (Move x q)) ≡ None →
      StaysOrLeaves (record { core = core; blanks = blanks }) x q None
  stays blanks unwanted can = stays_there core x q can blanks (is_here unwanted can)

  -- one that is elsewhere
  module _ (place : ℕ) (away : IsAway core x place q) where
    elsewhere_then : stays_on ≡ false
    elsewhere_then = ap (λ n. n == q) (its_place place away.stands) ∙ ne_eqb place q away.apart

    -- wants a blank
    pub not_here : None ≡ blank_of_move core x q → first_refusal (checks core plenty (Move x q)) ≡ None → ⊥
    not_here unwanted can = let never : true ≡ false = sym (is_here unwanted can) ∙ elsewhere_then in let no : ⊥ = cc in no

    -- and is refused only for an assigned message, in a store that goes on
    pub not_refused : core.halted ≡ false → core.busy ≡ false → (refusal : Refusal) → first_refusal (checks core plenty (Move x q)) ≡ Some refusal → refusal ≡ refusals.Uncommitted
    not_refused going free refusal is =
        let here : is_present core x ≡ true = sym (sound.placed x).there ∙ ap is_some away.stands in
        late_away (is_some (assigned_to core (place_or_home core x)) || is_some (assigned_to core q)) (version_of_array (present core) x.array) refusal
        (sym (λ i. first_refusal (When (going i) refusals.Halted ∷ When (free i) refusals.Checkpointing ∷ When (not (lt-ltb q core.processors away.there i)) refusals.BadPes ∷ When (not (here i)) refusals.Absent ∷ cond (elsewhere_then i) [] (away_checks core plenty x q))) ∙ is)

-- ---- a move that is done

-- a step that is done wasn't refused
done_steps : (core : Core) (blanks : Blanks) (step : CoreStep) (next : Stepped) → Steps core blanks step next → next.answer ≡ Done →
    (first_refusal (checks core blanks step) ≡ None) × (next.core ≡ next_core core step)
done_steps core blanks step next s answer = elim s.1 [
  | inl same ↦ unless (first_refusal (checks core blanks step)) same
  | inr lacking ↦ elim lacking [
    | inl memory ↦ absurd (let no : ⊥ = let same : Done ≡ Refuses refusals.Memory = sym answer ∙ ap (λ (n : Stepped). n.answer) memory.1 in cc in no)
    | inr device ↦ absurd (let no : ⊥ = let same : Done ≡ Refuses refusals.Device = sym answer ∙ ap (λ (n : Stepped). n.answer) device.1 in cc in no)
  ]
]
  where
    unless : (o : Option Refusal) → next ≡ stepped_unless core blanks step o → (o ≡ None) × (next.core ≡ next_core core step)
    unless None same = (refl, ap (λ (n : Stepped). n.core) same)
    unless (Some refusal) same = absurd (let no : ⊥ = let done_is : Done ≡ Refuses refusal = sym answer ∙ ap (λ (n : Stepped). n.answer) same in cc in no)

-- what isn't refused isn't so where blanks are plenty
with_plenty : (halted busy nowhere absent here assigned : Bool) (blanks : Blanks) (wanted : Option KindVersion) →
    first_refusal (When halted refusals.Halted ∷ When busy refusals.Checkpointing ∷ When nowhere refusals.BadPes ∷ When absent refusals.Absent ∷ cond here [] (When assigned refusals.Uncommitted ∷ (lacks_blank blanks wanted ++ MayLackMemory ∷ []))) ≡ None →
    first_refusal (When halted refusals.Halted ∷ When busy refusals.Checkpointing ∷ When nowhere refusals.BadPes ∷ When absent refusals.Absent ∷ cond here [] (When assigned refusals.Uncommitted ∷ (lacks_blank plenty wanted ++ MayLackMemory ∷ []))) ≡ None
with_plenty true busy nowhere absent here assigned blanks wanted can = absurd (let never : ⊥ = cc in never)
with_plenty false true nowhere absent here assigned blanks wanted can = absurd (let never : ⊥ = cc in never)
with_plenty false false true absent here assigned blanks wanted can = absurd (let never : ⊥ = cc in never)
with_plenty false false false true here assigned blanks wanted can = absurd (let never : ⊥ = cc in never)
with_plenty false false false false true assigned blanks wanted can = refl
with_plenty false false false false false true blanks wanted can = absurd (let never : ⊥ = cc in never)
with_plenty false false false false false false blanks None can = refl
with_plenty false false false false false false blanks (Some kind_version) can = refl

-- two shelves that show the same have the same records
same_records : (p : ℕ) (places : List (Elem × ℕ)) (w : World) (a b : List (Elem × Record)) → ShowsOn p a places w → ShowsOn p b places w → a ≡ b
same_records p places w a b shows also = same_maps elem_cmp elem_total elem_exact a b shows.rising also.rising (λ x. shows.shown x ∙ sym (also.shown x))

module _ {C : Type 0} {G : chares.Ghosts C} (history next : History) (stock after : Stock C G) (x : Elem) (from to left come : View) (sound : IsSound (core_in history)) (place : place_of (core_in history) x ≡ Some from.number) (apart : from.number ≡ to.number → ⊥)
    (first : IsShelfOf history from) (second : IsShelfOf history to) (here : IsShelfOf next left) (there : IsShelfOf next come) (left_is : left ≡ record from { records = left.records }) (come_is : come ≡ record to { records = come.records }) where
  abbrev core : Core
  core = core_in history

  abbrev now : Core
  now = core_in next

  abbrev p : ℕ
  p = from.number

  abbrev q : ℕ
  q = to.number

  -- the element is on the other shelf
  module _ (goes : Goes (store_with history stock) (Move x q) Done (store_with next after)) where
    was_done : (first_refusal (checks core (blanks_in stock) (Move x q)) ≡ None) × (now ≡ next_core core (Move x q))
    was_done = done_steps core (blanks_in stock) (Move x q) (record { answer = Done; core = now; blanks = blanks_in after }) goes refl

    going : CanGo core x p q
    going = record {
      sound = sound;
      place = place;
      apart = apart;
      can = with_plenty core.halted core.busy (not (is_processor core q)) (not (is_present core x)) (place_or_home core x == q) (is_some (assigned_to core (place_or_home core x)) || is_some (assigned_to core q)) (blanks_in stock) (version_of_array (present core) x.array) was_done.0;
    }

    abbrev its_record : Record
    its_record = record_of (present core) x

    found : lookup (is_at (elem_cmp x)) from.records ≡ Some its_record
    found = stands core.places (present core) x p place from.records first.part.objects

    idle : (from.phase ≡ Idle) × (to.phase ≡ Idle)
    idle = idle_both history x from to going first second

    gone : left.records ≡ (without from x).records
    gone = same_records p now.places (present now) left.records (without from x).records
        (subst (λ n. ShowsOn n left.records now.places (present now)) (ap (λ (v : View). v.number) left_is) here.part.objects)
        (source_stays history next x from to going was_done.1 first second its_record found).part.objects

    came : come.records ≡ (with_copy to x its_record).records
    came = same_records q now.places (present now) come.records (with_copy to x its_record).records
        (subst (λ n. ShowsOn n come.records now.places (present now)) (ap (λ (v : View). v.number) come_is) there.part.objects)
        (destination_stays history next x from to going was_done.1 first second its_record found).part.objects

    carries : Carries x from to left come
    carries = record {
      from_idle = idle.0;
      to_idle = idle.1;
      leaves = left_is ∙ (λ i. record from { records = gone i });
      comes = (its_record, found, come_is ∙ (λ i. record to { records = came i }));
    }

  pub carries_if : {T : Type 0} (result : Result T Refusal) → Goes (store_with history stock) (Move x q) (done_or_refused result) (store_with next after) → OnOk result (Carries x from to left come)
  carries_if (Ok _) goes = carries goes
  carries_if (Err refusal) goes = tt

-- ---- the sequencer, and two shelves that are lent to it

module _ {D C : Type 0} {G : disks.Ghosts D} {H : chares.Ghosts C} (opening : World) (before processors generation : ℕ) (history : History) (stock : Stock C H) (parts : List (Option Part)) (halves : Halves D G)
    (its : HasOpened opening before processors generation (core_in history) × AreTied history stock parts halves) (shelf : View) (fragment : ℕ × Option Part) (fragment_is : fragment ≡ (shelf.number, Some (part_on shelf))) (agrees : slice_get parts fragment.0 ≡ Some fragment.1) where
  pub fragment_there : slice_get parts shelf.number ≡ Some (Some (part_on shelf))
  fragment_there = subst (λ (s : ℕ × Option Part). slice_get parts s.0 ≡ Some s.1) fragment_is agrees

  -- a shelf is one of the history's
  pub lent_shelf : IsShelfOf history shelf
  lent_shelf = shelf_of_authority history stock parts its.1.authority shelf fragment_there

module _ {D C T : Type 0} {G : disks.Ghosts D} {H : chares.Ghosts C} (opening : World) (before processors generation : ℕ) (history : History) (stock : Stock C H) (parts : List (Option Part)) (halves : Halves D G)
    (its : HasOpened opening before processors generation (core_in history) × AreTied history stock parts halves) (from to : View) (fragment other : ℕ × Option Part) (fragment_is : fragment ≡ (from.number, Some (part_on from))) (other_is : other ≡ (to.number, Some (part_on to)))
    (agrees : slice_get parts fragment.0 ≡ Some fragment.1) (also : slice_get parts other.0 ≡ Some other.1)
    (next : History) (after : Stock C H) (x : Elem) (result : Result T Refusal) (goes : Goes (store_with history stock) (Move x to.number) (done_or_refused result) (store_with next after)) where
  abbrev last : Stepped
  last = record { answer = done_or_refused result; core = core_in next; blanks = blanks_in after }

  -- the sequencer is one again
  module _ (place : place_of (core_in history) x ≡ Some from.number) (apart : from.number ≡ to.number → ⊥) (was : IsSound (core_in history)) (sound : IsSound (core_in next)) (left come : View) (here : IsShelfOf next left) (there : IsShelfOf next come)
      (left_is : left ≡ record from { records = left.records }) (come_is : come ≡ record to { records = come.records }) (held : held_in_both left come after ≡ held_in_both from to stock) (supplied : supplied_to after ≡ supplied_to stock) (keeping : keeping_of after ≡ keeping_of stock) where
    pub sequencer_moved : (parts' : List (Option Part)) → parts' ≡ both_set parts fragment.0 other.0 (Some (part_on left)) (Some (part_on come)) → HasOpened opening before processors generation (core_in next) × AreTied {G = G} next after parts' halves
    sequencer_moved parts' is =
        let is_quiet : Quiet (core_in history) (core_in next) = quiet_step (core_in history) (blanks_in stock) (Move x to.number) last tt goes in
        let leaves : LeavesOthers from.number to.number (core_in history) (core_in next) = move_leaves (core_in history) (blanks_in stock) x from.number to.number place last goes in
        let written : parts' ≡ both_set parts from.number to.number (Some (part_on left)) (Some (part_on come)) = is ∙ (λ i. both_set parts (fragment_is i).0 (other_is i).0 (Some (part_on left)) (Some (part_on come))) in (
          opened_again opening before processors generation (core_in history) (core_in next) its.0 is_quiet leaves.processors,
          tied_again history next stock after parts halves its.1 parts' was is_quiet keeping
              (subst (IsAuthorityOf next after) (sym written)
              (authority_moved history stock parts its.1.authority from to (fragment_there opening before processors generation history stock parts halves its from fragment fragment_is agrees) (fragment_there opening before processors generation history stock parts halves its to other other_is also) apart
              next after x place (done_or_refused result) goes sound left come here there left_is come_is held supplied)),
        )

-- a refusal leaves all as it was
pub unmoved_same : {D C T : Type 0} {G : disks.Ghosts D} {H : chares.Ghosts C} (history next : History) (stock after : Stock C H) (halves : Halves D G) (x : Elem) (from to left come : View) (result : Result T Refusal) →
    Goes (store_with history stock) (Move x to.number) (done_or_refused result) (store_with next after) → OnErr result ((left ≡ from) × (come ≡ to) × (census_of after ≡ census_of stock)) →
    OnErr result ((shown_by next after halves ≡ shown_by history stock halves) × (left ≡ from) × (come ≡ to))
unmoved_same history next stock after halves x from to left come (Ok moved) goes same = tt
unmoved_same history next stock after halves x from to left come (Err refusal) goes same =
    let stepped : Stepped = record { answer = Refuses refusal; core = core_in next; blanks = blanks_in after } in
    let core : core_in next ≡ core_in history = (refusals_change_nothing (core_in history) (blanks_in stock) (Move x to.number) stepped refusal goes refl).0
    (λ device. only_writes_fail (core_in history) (blanks_in stock) (Move x to.number) stepped tt goes (ap Refuses device)) in (
      (λ i. record { core = core i; census = same.2 i; disk = disk_of halves }),
      same.0,
      same.1,
    )
