-- A call on the sequencer, and one on the sequencer and a shelf.
use Rattle.std.proofs.Common.{◌≡◌, ◌≢◌, ◌+◌, ◌≤◌, ℕ, true, false, if◌then◌else◌, List, [], ◌∷◌, ◌++◌, Result, Ok, Err, refl, sym, ap, subst, ◌∙◌, arith}
use Rattle.std.specs.Prelude.{Option, Some, IfErr, IfOk, OnErr, OnOk, slice_get, slice_set, take}
use Rattle.charmlet_model.specs.declared.event.Event.TheVariants.{Accept}
use Rattle.charmlet_model.specs.declared.kind.Kind.{Kind}
use Rattle.charmlet_model.specs.declared.kind.Kind.TheVariants as kinds
use Rattle.charmlet_model.specs.declared.names.Elem.{Elem}
use Rattle.charmlet_model.specs.declared.refusal.Refusal.{Refusal}
use Rattle.charmlet_model.specs.declared.refusal.Refusal.TheVariants as refusals
use Rattle.charmlet_model.specs.declared.state.State.{State}
use Rattle.charmlet_model.specs.declared.told.Told.{Told}
use Rattle.charmlet_model.specs.Core.{Blanks, Core, CoreAnswer, CoreStep, Flush, Refuses, Request, Stepped, Steps, is_repeat, next_core}
use Rattle.charmlet_model.specs.CoreLaws.{IsQuiet}
use Rattle.charmlet_model.specs.Run.{Goes}
use Rattle.charmlet_model.specs.Shelves.{count_of}
use Rattle.charmlet_model.specs.Sound.{AsksFor, IsSound}
use Rattle.charmlet_model.specs.Told.{Holds}
use Rattle.charmlet_model.specs.World.{World}
use Rattle.charmlet_model.proofs.CoreLemmas.{refusals_change_nothing, step_goes_on}
use Rattle.charmlet_model.proofs.DeviceLemmas.{only_writes_fail}
use Rattle.charmlet_model.proofs.ToldLemmas.{told_durable}
use Rattle.charmlet_chare.specs.declared.chare.Chare as chares
use Rattle.charmlet_disk.specs.declared.disk.Disk as disks
use Rattle.charmlet_halves.specs.declared.halves.Halves.{Halves}
use Rattle.charmlet_halves.specs.Halves.{disk_of}
use Rattle.charmlet_history.specs.declared.history.History.{History}
use Rattle.charmlet_history.specs.Kept.{core_in, counts_or_refused, plenty, told_or_refused}
use Rattle.charmlet_persist.specs.Writes.Quiet.{Quiet}
use Rattle.charmlet_persist.proofs.WritesLemmas.Quietness.{quiet_step, still_agrees, still_kept}
use Rattle.charmlet_shelf.specs.Count.{objects_on}
use Rattle.charmlet_shelf.specs.Shelf.{View}
use Rattle.charmlet_stock.specs.declared.by_kind.ByKind.{ByKind}
use Rattle.charmlet_stock.specs.declared.pile.Tally.{Tally}
use Rattle.charmlet_stock.specs.declared.stock.Stock.{Stock}
use Rattle.charmlet_stock.specs.ByKind.{at}
use Rattle.charmlet_stock.specs.Pile.{supplied_more}
use Rattle.charmlet_stock.specs.Stock.{blanks_in, census_of, keeping_of, tally_in}
use Rattle.charmlet_delivery.specs.Turns.{Turns}
use Rattle.charmlet_delivery.specs.Workplace.{IsConsistentWorkplace, done_or_refused, held_in, store_with, workplace_of}
use Rattle.charmlet_delivery.specs.Leaves.{Leaves}
use Rattle.charmlet_delivery.proofs.Leaving.{step_leaves}
use Rattle.charmlet_delivery.proofs.Places.{stepped_core}
use Rattle.charmlet_sequencer.specs.Authority.{IsAuthorityOf}
use Rattle.charmlet_sequencer.specs.Sequencer.{HasOpened, KeepsObjects}
use Rattle.charmlet_sequencer.specs.Part.{Part, part_on}
use Rattle.charmlet_sequencer.specs.Together.{AreTied, shown_by}
use Rattle.charmlet_sequencer.proofs.Authorities.{authority_again, authority_still, ready}

-- ---- one census

one_tally : (a b : Tally) → a.supplied ≡ b.supplied → a.in_stock ≡ b.in_stock → a.retired ≡ b.retired → a ≡ b
one_tally a b supplied in_stock retired = λ i. record { supplied = supplied i; in_stock = in_stock i; retired = retired i }

pub one_census : (a b : ByKind Tally) → ((kind : Kind) → at a kind ≡ at b kind) → a ≡ b
one_census a b each = λ i. record {
  counters = each kinds.Counter i;
  rings = each kinds.Ring i;
  accounts = each kinds.Account i;
  sums = each kinds.Sum i;
  trees = each kinds.Tree i;
  tapes = each kinds.Tape i;
}

-- ---- a sequencer

module _ {D C : Type 0} {G : disks.Ghosts D} {H : chares.Ghosts C} (history next : History) (stock after : Stock C H) (parts : List (Option Part)) (halves : Halves D G) (tied : AreTied history stock parts halves) where
  -- a step that writes nothing
  pub tied_again : (written : List (Option Part)) → IsSound (core_in history) → Quiet (core_in history) (core_in next) → keeping_of after ≡ keeping_of stock → IsAuthorityOf next after written → AreTied next after written halves
  tied_again written sound quiet keeping authority = record {
    authority = authority;
    dropping = keeping ∙ tied.dropping;
    agrees = still_agrees {G = G} (core_in history) (core_in next) quiet halves tied.agrees;
    keeps = λ honest. still_kept {G = G} (core_in history) (core_in next) quiet sound.durable halves (tied.keeps honest);
    current = λ honest going. tied.current honest (quiet.going going);
  }

pub opened_again : (opening : World) (before processors generation : ℕ) (core next : Core) → HasOpened opening before processors generation core → Quiet core next → next.processors ≡ core.processors → HasOpened opening before processors generation next
opened_again opening before processors generation core next opened quiet same = record {
  of = record {
    opening_is = quiet.opening ∙ opened.of.opening_is;
    before_is = quiet.before ∙ opened.of.before_is;
    processors_are = same ∙ opened.of.processors_are;
  };
  later = subst (λ n. generation ≤ n) (sym quiet.generation) opened.later;
}

-- ---- a sequencer and a shelf that is lent to it

module _ {D C : Type 0} {G : disks.Ghosts D} {H : chares.Ghosts C} (opening : World) (before processors generation : ℕ) (history : History) (stock : Stock C H) (parts : List (Option Part)) (halves : Halves D G)
    (its : HasOpened opening before processors generation (core_in history) × AreTied history stock parts halves) (shelf : View) (fragment : ℕ × Option Part) (fragment_is : fragment ≡ (shelf.number, Some (part_on shelf))) (agrees : slice_get parts fragment.0 ≡ Some fragment.1) where
  there : slice_get parts shelf.number ≡ Some (Some (part_on shelf))
  there = subst (λ (s : ℕ × Option Part). slice_get parts s.0 ≡ Some s.1) fragment_is agrees

  -- a part of a delivery may be done there
  pub at_work : IsConsistentWorkplace (workplace_of history shelf stock)
  at_work = ready history stock parts its.1.authority shelf there

  module _ (next : History) (last : View) (after : Stock C H) (turns : Turns (workplace_of history shelf stock) (workplace_of next last after)) where
    -- and then the sequencer is one again
    pub sequencer_again : (step : CoreStep) (answer : CoreAnswer) → IsQuiet step → Goes (store_with history stock) step answer (store_with next after) → IsSound (core_in history) → IsSound (core_in next) →
        (parts' : List (Option Part)) → parts' ≡ slice_set parts fragment.0 (Some (part_on last)) → HasOpened opening before processors generation (core_in next) × AreTied {G = G} next after parts' halves
    sequencer_again step answer quiet goes was sound parts' is =
        let is_quiet : Quiet (core_in history) (core_in next) = quiet_step (core_in history) (blanks_in stock) step (record { answer = answer; core = core_in next; blanks = blanks_in after }) quiet goes in
        let here : parts' ≡ slice_set parts shelf.number (Some (part_on last)) = is ∙ ap (λ (s : ℕ × Option Part). slice_set parts s.0 (Some (part_on last))) fragment_is in (
          opened_again opening before processors generation (core_in history) (core_in next) its.0 is_quiet turns.processors,
          tied_again history next stock after parts halves its.1 parts' was is_quiet turns.keeping
              (subst (IsAuthorityOf next after) (sym here) (authority_again history stock parts its.1.authority shelf there next last after sound turns)),
        )

    -- no object is lost or made
    pub keeps_objects : KeepsObjects (shown_by history stock halves) (shown_by next after halves) shelf last
    keeps_objects = record { held = turns.held; supplied = turns.supplied }

    -- a refusal leaves all as it was
    pub refused_same : {T : Type 0} (step : CoreStep) (result : Result T Refusal) → IsQuiet step → Goes (store_with history stock) step (done_or_refused result) (store_with next after) →
        OnErr result (last ≡ shelf) → OnErr result (shown_by next after halves ≡ shown_by history stock halves)
    refused_same step (Ok x) quiet goes same = tt
    refused_same step (Err refusal) quiet goes same =
        let stepped : Stepped = record { answer = Refuses refusal; core = core_in next; blanks = blanks_in after } in
        let nothing = refusals_change_nothing (core_in history) (blanks_in stock) step stepped refusal goes refl in
        let core : core_in next ≡ core_in history = nothing.0 (λ device. only_writes_fail (core_in history) (blanks_in stock) step stepped quiet goes (ap Refuses device)) in
        let census : census_of after ≡ census_of stock = one_census (census_of after) (census_of stock) (λ kind.
        let supplied : (tally_in after kind).supplied ≡ (tally_in stock kind).supplied = ap (λ (f : Kind → ℕ). f kind) turns.supplied in
        let left : blanks_in after kind ≡ blanks_in stock kind = ap (λ (f : Kind → ℕ). f kind) nothing.1 in
        let held : held_in last after kind ≡ held_in shelf stock kind = ap (λ (f : Kind → ℕ). f kind) turns.held in
        let here : objects_on last kind ≡ objects_on shelf kind = ap (λ (v : View). objects_on v kind) same in
        one_tally (tally_in after kind) (tally_in stock kind) supplied left (omega (arith, held, here, left))) in
        λ i. record { core = core i; census = census i; disk = (shown_by history stock halves).disk }

-- ---- steps that are about no shelf

-- a request leaves the generation
pub request_generation : (core : Core) (client number : ℕ) (to : Elem) (entry : ℕ) (words : List ℕ) → (next_core core (Request client number to entry words)).generation ≡ core.generation
request_generation core client number to entry words =
    elim (is_repeat core client number) as (λ b. (if b then core else record core { history = core.history ++ Accept client number to entry words ∷ [] }).generation ≡ core.generation) [ true ↦ refl | false ↦ refl ]

module _ {C : Type 0} {H : chares.Ghosts C} (history next : History) (stock : Stock C H) (parts : List (Option Part)) (authority : IsAuthorityOf history stock parts) (sound : IsSound (core_in next)) (opening : World) (before processors generation : ℕ)
    (opened : HasOpened opening before processors generation (core_in history)) (answer : CoreAnswer) where
  abbrev last : Stepped
  last = record { answer = answer; core = core_in next; blanks = plenty }

  -- a step that leaves each processor
  module _ (step : CoreStep) (each : (q : ℕ) → Leaves q (core_in history) (next_core (core_in history) step)) (steps : Steps (core_in history) plenty step last) where
    leaves : (q : ℕ) → Leaves q (core_in history) (core_in next)
    leaves q = step_leaves q (core_in history) plenty step (each q) last steps

    pub other_authority : IsAuthorityOf next stock parts
    other_authority = authority_still history next stock parts authority sound leaves

    pub other_opened : (next_core (core_in history) step).generation ≡ (core_in history).generation → HasOpened opening before processors generation (core_in next)
    other_opened kept = record {
      of = record {
        opening_is = (step_goes_on (core_in history) plenty step last steps).opening ∙ opened.of.opening_is;
        before_is = (leaves 0).before ∙ opened.of.before_is;
        processors_are = (leaves 0).processors ∙ opened.of.processors_are;
      };
      later = stepped_core (λ (c : Core). generation ≤ c.generation) (core_in history) plenty step opened.later opened.later (subst (λ n. generation ≤ n) (sym kept) opened.later) last steps;
    }

-- two facts of a refusal
pub both_same : {T E : Type 0} (P Q : Type 0) (result : Result T E) → OnErr result P → OnErr result Q → OnErr result (P × Q)
both_same P Q (Ok x) p q = tt
both_same P Q (Err e) p q = (p, q)

-- a refusal of a flush that isn't for the device leaves all as it was
pub flushed_same : {D C : Type 0} {G : disks.Ghosts D} {H : chares.Ghosts C} (history next : History) (stock : Stock C H) (halves later : Halves D G) (result : Result ℕ Refusal) →
    Steps (core_in history) plenty Flush (record { answer = counts_or_refused result; core = core_in next; blanks = plenty }) → IfErr result (λ refusal. refusal ≢ refusals.Device → later ≡ halves) →
    IfErr result (λ refusal. refusal ≢ refusals.Device → shown_by next stock later ≡ shown_by history stock halves)
flushed_same history next stock halves later (Ok x) steps same = tt
flushed_same history next stock halves later (Err refusal) steps same = λ other.
    let stepped : Stepped = record { answer = Refuses refusal; core = core_in next; blanks = plenty } in
    let core : core_in next ≡ core_in history = (refusals_change_nothing (core_in history) plenty Flush stepped refusal steps refl).0 other in
    λ i. record { core = core i; census = census_of stock; disk = disk_of (same other i) }

-- ---- what clients are told

-- is true of the durable events
pub told_holds : (core next : Core) (blanks : Blanks) (step : CoreStep) (client number : ℕ) (result : Result Told Refusal) → AsksFor step client number →
    Steps core blanks step (record { answer = told_or_refused result; core = next; blanks = blanks }) → IfOk result (λ told. Holds core.opening (take core.durable core.history) client number told)
told_holds core next blanks step client number (Ok told) asks steps = told_durable core blanks step (record { answer = told_or_refused (Ok told); core = next; blanks = blanks }) client number told asks steps refl
told_holds core next blanks step client number (Err refusal) asks steps = tt

-- ---- blanks that are supplied

module _ {C E : Type 0} {H : chares.Ghosts C} (history : History) (stock after : Stock C H) (parts : List (Option Part)) (state : C → State) (objects : List C) where
  pub supplied_authority : (Q : E → Type 0) (result : Result (Unit {0}) E) → IsAuthorityOf history stock parts →
      OnOk result ((kind : Kind) → tally_in after kind ≡ supplied_more (tally_in stock kind) (count_of state objects kind)) → IfErr result (λ back. Q back × (census_of after ≡ census_of stock)) → IsAuthorityOf history after parts
  supplied_authority Q (Ok x) authority more none = record {
    count = authority.count;
    shows = authority.shows;
    dues = authority.dues;
    census = λ kind.
        let t = more kind in
        let supplied = ap (λ (t : Tally). t.supplied) t in
        let left = ap (λ (t : Tally). t.in_stock) t in
        let gone = ap (λ (t : Tally). t.retired) t in
        let old = authority.census kind in
        omega arith;
  }
  supplied_authority Q (Err back) authority more none = record {
    count = authority.count;
    shows = authority.shows;
    dues = authority.dues;
    census = λ kind.
        let t : tally_in after kind ≡ tally_in stock kind = ap (λ (v : ByKind Tally). at v kind) none.1 in
        let supplied = ap (λ (t : Tally). t.supplied) t in
        let left = ap (λ (t : Tally). t.in_stock) t in
        let gone = ap (λ (t : Tally). t.retired) t in
        let old = authority.census kind in
        omega arith;
  }

  -- they are there
  pub supplied_blanks : (result : Result (Unit {0}) E) (before : ByKind Tally) → census_of stock ≡ before → OnOk result ((kind : Kind) → tally_in after kind ≡ supplied_more (tally_in stock kind) (count_of state objects kind)) →
      OnOk result ((kind : Kind) → (tally_in after kind).in_stock ≡ (at before kind).in_stock + count_of state objects kind)
  supplied_blanks (Ok x) before same more = λ kind. ap (λ (t : Tally). t.in_stock) (more kind) ∙ ap (λ (v : ByKind Tally). (at v kind).in_stock + count_of state objects kind) same
  supplied_blanks (Err back) before same more = tt

  -- and are counted
  pub supplied_count : (result : Result (Unit {0}) E) (before : ByKind Tally) → census_of stock ≡ before → OnOk result ((kind : Kind) → tally_in after kind ≡ supplied_more (tally_in stock kind) (count_of state objects kind)) →
      OnOk result ((kind : Kind) → (tally_in after kind).supplied ≡ (at before kind).supplied + count_of state objects kind)
  supplied_count (Ok x) before same more = λ kind. ap (λ (t : Tally). t.supplied) (more kind) ∙ ap (λ (v : ByKind Tally). (at v kind).supplied + count_of state objects kind) same
  supplied_count (Err back) before same more = tt

  -- and none is retired by it
  pub supplied_retired : (result : Result (Unit {0}) E) (before : ByKind Tally) → census_of stock ≡ before → OnOk result ((kind : Kind) → tally_in after kind ≡ supplied_more (tally_in stock kind) (count_of state objects kind)) →
      OnOk result ((kind : Kind) → (tally_in after kind).retired ≡ (at before kind).retired)
  supplied_retired (Ok x) before same more = λ kind. ap (λ (t : Tally). t.retired) (more kind) ∙ ap (λ (v : ByKind Tally). (at v kind).retired) same
  supplied_retired (Err back) before same more = tt

-- where they aren't taken, all is as it was
pub unsupplied_same : {D C E : Type 0} {G : disks.Ghosts D} {H : chares.Ghosts C} (history : History) (stock after : Stock C H) (halves : Halves D G) (Q : E → Type 0) (result : Result (Unit {0}) E) → IfErr result (λ back. Q back × (census_of after ≡ census_of stock)) →
    IfErr result (λ back. Q back × (shown_by history after halves ≡ shown_by history stock halves))
unsupplied_same history stock after halves Q (Ok x) none = tt
unsupplied_same history stock after halves Q (Err back) none = (none.0, λ i. record { core = core_in history; census = none.1 i; disk = disk_of halves })
