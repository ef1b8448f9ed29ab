-- Several replayers replay what one would.
use Rattle.std.proofs.Common.{◌≡◌, ℕ, suc, ◌<◌, Bool, true, false, cond, List, [], ◌∷◌, length, refl, sym, ap, subst, ◌∙◌, arith}
use Rattle.std.specs.Prelude.{Option, Some, None, option_map, slice_get}
use Rattle.std.specs.List.{All, AllZip}
use Rattle.charmlet_model.specs.declared.names.Elem.{Elem}
use Rattle.charmlet_model.specs.declared.logged.CatchUpEntry.{CatchUpEntry}
use Rattle.charmlet_model.specs.declared.state.Record.{Record}
use Rattle.charmlet_model.specs.World.{record_at}
use Rattle.charmlet_record.specs.declared.positioned.Positioned.{Positioned}
use Rattle.charmlet_record.specs.declared.reader.Fault.{Fault}
use Rattle.charmlet_record.specs.declared.reader.ReadError.{ReadError}
use Rattle.charmlet_record.specs.declared.reader.ReadError.TheVariants.{Damaged, Memory}
use Rattle.charmlet_record.specs.Reading.{Kinds}
use Rattle.charmlet_image.specs.Positioned.{items_of}
use Rattle.charmlet_recovery.specs.Bases.{redelivered, redelivered_all}
use Rattle.charmlet_recovery.specs.Faults.{catch_up_tests, first_failure, is_caught_up}
use Rattle.charmlet_chare.specs.declared.chare.Chare.{Ghosts}
use Rattle.charmlet_log_scan.specs.Partition.Parts.{Worked, Stopped, Done, catch_ups, caught_up, earliest_stop, first_left, is_of_worker, part, stop_of}
use Rattle.charmlet_log_scan.proofs.PartitionLemmas.CatchUps.{catch-ups-stop}
use Rattle.charmlet_log_scan.proofs.PartitionLemmas.Stops.{AreStopsOf, earliest-first}
use Rattle.charmlet_replayers.proofs.ReplayerLemmas.ReplayerStops.{before, no-stop, same-stops, stops-are, zip-length}
use Rattle.charmlet_shard.specs.Places.{IsFirstFault}
use Rattle.charmlet_replayers.specs.Replayer.Replayers.{IsCaughtUpReplayer, IsKnownBy}
use Rattle.charmlet_shard.specs.RestoredShard.{IsRestored}
use Rattle.charmlet_replayers.specs.Replayer.Workers.{AreDispatched, AreParts, IsSpared, is_refused, left_at, left_of}
use Rattle.charmlet_replayers.specs.declared.replayer.replayer.Replayer.{Replayer}

-- ---- the tests of a list, and where a replayer stops by them

more-none : (o : Option ℕ) → option_map suc o ≡ None → o ≡ None
more-none None h = refl
more-none (Some j) h = absurd (let no : ⊥ = cc in no)

more-some : (o : Option ℕ) (i : ℕ) → option_map suc o ≡ Some i → (j : ℕ) × (o ≡ Some j) × (i ≡ suc j)
more-some None i h = absurd (let no : ⊥ = cc in no)
more-some (Some j) i h = (j, refl, let same : i ≡ suc j = cc in same)

pub all-done : (manifest : Kinds) (records : List (Elem × Record)) (ps : List (Positioned CatchUpEntry)) → first_failure (catch_up_tests manifest records (items_of ps)) ≡ None →
    caught_up manifest records ps ≡ Done (redelivered_all manifest records (items_of ps))
all-done manifest records [] h = refl
all-done manifest records (p ∷ ps) h =
    let next = redelivered manifest records p.item in
    elim (is_caught_up manifest (record_at records p.item.message.to) p.item) as (λ b. first_failure (b ∷ catch_up_tests manifest next (items_of ps)) ≡ None →
    cond b (caught_up manifest next ps) (Stopped p.bytes_left) ≡ Done (redelivered_all manifest next (items_of ps))) [
      | true ↦ λ none. all-done manifest next ps (more-none (first_failure (catch_up_tests manifest next (items_of ps))) none)
      | false ↦ λ never. absurd (let no : ⊥ = cc in no)
    ] h

fault-later : {X : Type 0} (tests : List Bool) (p : Positioned X) (ps : List (Positioned X)) (left : ℕ) → IsFirstFault (true ∷ tests) (p ∷ ps) left → IsFirstFault tests ps left
fault-later tests p ps left (i, q, first, at, is) =
    let more = more-some (first_failure tests) i first in
    (more.0, q, more.1, subst (λ k. slice_get (p ∷ ps) k ≡ Some q) more.2 at, is)

fault-here : {X : Type 0} (tests : List Bool) (p : Positioned X) (ps : List (Positioned X)) (left : ℕ) → IsFirstFault (false ∷ tests) (p ∷ ps) left → p.bytes_left ≡ left
fault-here tests p ps left (i, q, first, at, is) =
    let zeroth : 0 ≡ i = cc in
    let same : Some p ≡ Some q = subst (λ k. slice_get (p ∷ ps) k ≡ Some q) (sym zeroth) at in
    let one : p ≡ q = cc in ap (λ (r : Positioned _). r.bytes_left) one ∙ sym is

pub stops-at : (manifest : Kinds) (records : List (Elem × Record)) (ps : List (Positioned CatchUpEntry)) (left : ℕ) → IsFirstFault (catch_up_tests manifest records (items_of ps)) ps left → caught_up manifest records ps ≡ Stopped left
stops-at manifest records [] left (i, q, first, at, is) = absurd (let no : ⊥ = cc in no)
stops-at manifest records (p ∷ ps) left h =
    let next = redelivered manifest records p.item in
    let tests = catch_up_tests manifest next (items_of ps) in
    elim (is_caught_up manifest (record_at records p.item.message.to) p.item) as (λ b. IsFirstFault (b ∷ tests) (p ∷ ps) left → cond b (caught_up manifest next ps) (Stopped p.bytes_left) ≡ Stopped left) [
      | true ↦ λ on. stops-at manifest next ps left (fault-later tests p ps left on)
      | false ↦ λ here. ap Stopped (fault-here tests p ps left here)
    ] h

-- what is left at the first fault is its place
pub first-fault : {X : Type 0} (tests : List Bool) (ps : List (Positioned X)) (left : ℕ) → first_left tests ps ≡ Some left → IsFirstFault tests ps left
first-fault [] ps left h = absurd (let no : ⊥ = cc in no)
first-fault (b ∷ tests) [] left h = absurd (let no : ⊥ = cc in no)
first-fault (true ∷ tests) (p ∷ ps) left h = let more = first-fault tests ps left h in (suc more.0, more.1, ap (option_map suc) more.2, more.3, more.4)
first-fault (false ∷ tests) (p ∷ ps) left h = let same : p.bytes_left ≡ left = cc in (0, p, refl, refl, sym same)

pub none-fails : {X : Type 0} (tests : List Bool) (ps : List (Positioned X)) → length tests ≡ length ps → first_left tests ps ≡ None → first_failure tests ≡ None
none-fails [] ps many h = refl
none-fails (b ∷ tests) [] many h = absurd (let no : ⊥ = omega (arith, many) in no)
none-fails (true ∷ tests) (p ∷ ps) many h = ap (option_map suc) (none-fails tests ps (omega (arith, many)) h)
none-fails (false ∷ tests) (p ∷ ps) many h = absurd (let no : ⊥ = cc in no)

many-tests : (manifest : Kinds) (records : List (Elem × Record)) (ps : List (Positioned CatchUpEntry)) → length (catch_up_tests manifest records (items_of ps)) ≡ length ps
many-tests manifest records [] = refl
many-tests manifest records (p ∷ ps) = ap suc (many-tests manifest (redelivered manifest records p.item) ps)

-- ---- the replayers

module _ {C : Type 0} {G : Ghosts C} (manifest : Kinds) where
  -- a replayer's stop is what it comes to
  replayer-stops : (old new : Replayer C G) (records : List (Elem × Record)) → IsCaughtUpReplayer manifest old new → IsKnownBy manifest old.restored old.deliveries.items records → is_refused new.stopped ≡ false →
      left_of new.stopped ≡ stop_of (caught_up manifest records old.deliveries.items)
  replayer-stops old new records done known spared = by new.stopped refl spared
    where
      by : (o : Option ReadError) → new.stopped ≡ o → is_refused o ≡ false → left_of o ≡ stop_of (caught_up manifest records old.deliveries.items)
      by None is h = sym (ap stop_of (all-done manifest records old.deliveries.items (done.done is records known).pass))
      by (Some Memory) is h = absurd (let no : ⊥ = cc in no)
      by (Some (Damaged fault)) is h = sym (ap stop_of (stops-at manifest records old.deliveries.items fault.bytes_left (done.fault fault is records known)))

  module _ (worker : Elem → ℕ) (records : List (Elem × Record)) (ds : List (Positioned CatchUpEntry)) (olds news : List (Replayer C G)) (dispatched : AreDispatched worker manifest records ds olds)
      (zip : AllZip (IsCaughtUpReplayer manifest) olds news) (spared : All IsSpared news) where
    abbrev tests : List Bool
    tests = catch_up_tests manifest records (items_of ds)

    abbrev mine : ℕ → Elem → Bool
    mine = is_of_worker worker

    abbrev come : (Elem → Bool) → Worked
    come own = caught_up manifest (part own records) (catch_ups own ds)

    abbrev ends : (Elem → Bool) → List (Elem × Record)
    ends own = part own (redelivered_all manifest records (items_of ds))

    stops : AreStopsOf (first_left tests ds) ends come
    stops = catch-ups-stop manifest records ds dispatched.falls dispatched.rising

    each-stop : (w : ℕ) (old new : Replayer C G) → slice_get olds w ≡ Some old → IsCaughtUpReplayer manifest old new → is_refused new.stopped ≡ false → left_of new.stopped ≡ stop_of (come (mine w))
    each-stop w old new at done spares =
        replayer-stops old new (part (mine w) records) done (dispatched.known w old at) spares
        ∙ ap (λ ps. stop_of (caught_up manifest (part (mine w) records) ps)) (dispatched.deliveries w old at)

    first-is : earliest_stop (length news) (left_at news) ≡ first_left tests ds
    first-is =
        same-stops (length news) (left_at news) (λ w. stop_of (come (mine w))) (stops-are (IsCaughtUpReplayer manifest) olds news (λ w. stop_of (come (mine w))) zip spared each-stop)
        ∙ earliest-first worker (length news) (first_left tests ds) ends come (λ x. subst (λ n. worker x < n) (sym (zip-length (IsCaughtUpReplayer manifest) olds news zip)) (dispatched.within x)) stops

    pub fault-is : (fault : Fault) → earliest_stop (length news) (left_at news) ≡ Some fault.bytes_left → IsFirstFault tests ds fault.bytes_left
    fault-is fault is = first-fault tests ds fault.bytes_left (sym first-is ∙ is)

    pub passes : earliest_stop (length news) (left_at news) ≡ None → first_failure tests ≡ None
    passes is = none-fails tests ds (many-tests manifest records ds) (sym first-is ∙ is)

    pub parts-are : earliest_stop (length news) (left_at news) ≡ None → AreParts worker (redelivered_all manifest records (items_of ds)) news
    parts-are is w new at =
        let was = before (IsCaughtUpReplayer manifest) olds news zip spared w new at in
        let old = was.old in
        let known = dispatched.known w old was.at in
        let whole = stops.whole (sym first-is ∙ is) (mine w) in
        let cs : old.deliveries.items ≡ catch_ups (mine w) ds = dispatched.deliveries w old was.at in
        let halts : left_of new.stopped ≡ None = each-stop w old new was.at was.related was.spared ∙ ap stop_of whole in
        let goes_on : new.stopped ≡ None = no-stop new.stopped halts was.spared in
        let again = was.related.done goes_on (part (mine w) records) known in
        let end : Done (redelivered_all manifest (part (mine w) records) (items_of old.deliveries.items)) ≡ Done (ends (mine w)) =
        sym (all-done manifest (part (mine w) records) old.deliveries.items again.pass) ∙ ap (caught_up manifest (part (mine w) records)) cs ∙ whole in
        let same : redelivered_all manifest (part (mine w) records) (items_of old.deliveries.items) ≡ ends (mine w) = ap records_in end in
        subst (λ rs. IsRestored rs new.restored) same again.restored
      where
        records_in : Worked → List (Elem × Record)
        records_in (Stopped left) = []
        records_in (Done rs) = rs
