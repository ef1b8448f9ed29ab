-- The catch-up list by replayers.
use Rattle.charmlet_record.specs.Reading.{Kinds}
use Rattle.std.proofs.Common.{◌≡◌, ℕ, ◌<◌, ◌≤◌, Bool, true, false, cond, List, [], ◌∷◌, refl, sym, ap, subst, ◌∙◌, arith, le_refl}
use Rattle.std.specs.Prelude.{Option, Some, None}
use Rattle.std.specs.List.{AllByRecursion}
use Rattle.std.specs.List.Sorted.{IsStrictlySortedBy}
use Rattle.std.specs.Map.{keys_of}
use Rattle.charmlet_model.specs.declared.names.Elem.{Elem}
use Rattle.charmlet_model.specs.declared.state.Record.{Record}
use Rattle.charmlet_model.specs.declared.reaction.Reaction.{Reaction}
use Rattle.charmlet_model.specs.declared.logged.CatchUpEntry.{CatchUpEntry}
use Rattle.charmlet_model.specs.Names.{elem_cmp}
use Rattle.charmlet_model.specs.World.{record_at, advanced}
use Rattle.charmlet_recovery.specs.Bases.{reaction, records_after, is_skipped, redelivered, redelivered_all}
use Rattle.charmlet_recovery.specs.Faults.{is_caught_up, catch_up_tests}
use Rattle.charmlet_recovery.proofs.Moments.{rising-caught_up}
use Rattle.charmlet_record.specs.declared.positioned.Positioned.{Positioned}
use Rattle.charmlet_image.specs.Positioned.{items_of}
use Rattle.charmlet_log_scan.specs.Partition.Parts.{Worked, Stopped, Falls, part, catch_ups, caught_up, first_left}
use Rattle.charmlet_log_scan.proofs.PartitionLemmas.Parts.{record-part, part-skips, part-takes}
use Rattle.charmlet_log_scan.proofs.PartitionLemmas.Stops.{AreStopsOf, first-place, nothing-stops, one-place-on}

-- ---- one step, of a replayer and of all

pub part-after : (mine : Elem → Bool) (records : List (Elem × Record)) (x : Elem) (r : Record) (o : Option Reaction) → IsStrictlySortedBy elem_cmp (keys_of records) → mine x ≡ true →
    records_after (part mine records) x r o ≡ part mine (records_after records x r o)
part-after mine records x r None rising own = refl
part-after mine records x r (Some o) rising own = sym (part-takes mine records x (advanced r o) rising own)

pub part-stays : (mine : Elem → Bool) (records : List (Elem × Record)) (x : Elem) (r : Record) (o : Option Reaction) → mine x ≡ false →
    part mine (records_after records x r o) ≡ part mine records
part-stays mine records x r None other = refl
part-stays mine records x r (Some o) other = part-skips mine records x (advanced r o) other

module _ (manifest : Kinds) where
  redelivered-own : (mine : Elem → Bool) (records : List (Elem × Record)) (d : CatchUpEntry) → IsStrictlySortedBy elem_cmp (keys_of records) → mine d.message.to ≡ true →
      redelivered manifest (part mine records) d ≡ part mine (redelivered manifest records d)
  redelivered-own mine records d rising own =
      let x = d.message.to in
      ap (λ r. cond (is_skipped r d) (part mine records) (records_after (part mine records) x r (reaction manifest r d.message))) (record-part mine records x own)
      ∙ elim (is_skipped (record_at records x) d) as (λ b.
      cond b (part mine records) (records_after (part mine records) x (record_at records x) (reaction manifest (record_at records x) d.message))
      ≡ part mine (cond b records (records_after records x (record_at records x) (reaction manifest (record_at records x) d.message)))) [
        | true ↦ refl
        | false ↦ part-after mine records x (record_at records x) (reaction manifest (record_at records x) d.message) rising own
      ]

  redelivered-others : (mine : Elem → Bool) (records : List (Elem × Record)) (d : CatchUpEntry) → mine d.message.to ≡ false →
      part mine (redelivered manifest records d) ≡ part mine records
  redelivered-others mine records d other =
      let x = d.message.to in
      elim (is_skipped (record_at records x) d) as (λ b.
      part mine (cond b records (records_after records x (record_at records x) (reaction manifest (record_at records x) d.message))) ≡ part mine records) [
        | true ↦ refl
        | false ↦ part-stays mine records x (record_at records x) (reaction manifest (record_at records x) d.message) other
      ]

  -- ---- no replayer stops before its first delivery

  stop-after : (mine : Elem → Bool) (l : ℕ) (ps : List (Positioned CatchUpEntry)) (records : List (Elem × Record)) (k : ℕ) → AllByRecursion (λ (p : Positioned CatchUpEntry). p.bytes_left ≤ l) ps →
      caught_up manifest records (catch_ups mine ps) ≡ Stopped k → k ≤ l
  stop-after mine l [] records k below h = absurd (let no : ⊥ = cc in no)
  stop-after mine l (p ∷ ps) records k below h =
      elim (mine p.item.message.to) as (λ b. caught_up manifest records (cond b (p ∷ catch_ups mine ps) (catch_ups mine ps)) ≡ Stopped k → k ≤ l) [
        | true ↦ λ is. elim (is_caught_up manifest (record_at records p.item.message.to) p.item) as (λ b. cond b (caught_up manifest (redelivered manifest records p.item) (catch_ups mine ps)) (Stopped p.bytes_left) ≡ Stopped k → k ≤ l) [
          | true ↦ λ on. stop-after mine l ps (redelivered manifest records p.item) k below.1 on
          | false ↦ λ here. let same : p.bytes_left ≡ k = cc in subst (λ j. j ≤ l) same below.0
        ] is
        | false ↦ λ is. stop-after mine l ps records k below.1 is
      ] h

  -- ---- all steps

  module _ (records : List (Elem × Record)) (p : Positioned CatchUpEntry) (ps : List (Positioned CatchUpEntry)) (rising : IsStrictlySortedBy elem_cmp (keys_of records)) where
    abbrev d : CatchUpEntry
    d = p.item

    abbrev next : List (Elem × Record)
    next = redelivered manifest records d

    abbrev come : (Elem → Bool) → Worked
    come mine = caught_up manifest (part mine records) (catch_ups mine (p ∷ ps))

    abbrev come_next : (Elem → Bool) → Worked
    come_next mine = caught_up manifest (part mine next) (catch_ups mine ps)

    goes-on : is_caught_up manifest (record_at records d.message.to) d ≡ true → (mine : Elem → Bool) → come mine ≡ come_next mine
    goes-on scans mine =
        let cs = catch_ups mine ps in
        elim (mine d.message.to) as (λ b. mine d.message.to ≡ b → caught_up manifest (part mine records) (cond b (p ∷ cs) cs) ≡ caught_up manifest (part mine next) cs) [
          | true ↦ λ own.
              ap (λ b. cond b (caught_up manifest (redelivered manifest (part mine records) d) cs) (Stopped p.bytes_left)) (ap (λ r. is_caught_up manifest r d) (record-part mine records d.message.to own) ∙ scans)
              ∙ ap (λ rs. caught_up manifest rs cs) (redelivered-own mine records d rising own)
          | false ↦ λ other. ap (λ rs. caught_up manifest rs cs) (sym (redelivered-others mine records d other))
        ] refl

    stops-here : is_caught_up manifest (record_at records d.message.to) d ≡ false → (mine : Elem → Bool) → mine d.message.to ≡ true → come mine ≡ Stopped p.bytes_left
    stops-here fails mine own =
        let cs = catch_ups mine ps in
        ap (λ b. caught_up manifest (part mine records) (cond b (p ∷ cs) cs)) own
        ∙ ap (λ b. cond b (caught_up manifest (redelivered manifest (part mine records) d) cs) (Stopped p.bytes_left)) (ap (λ r. is_caught_up manifest r d) (record-part mine records d.message.to own) ∙ fails)

-- what falls is no more
pub no-more : {X : Type 0} (l : ℕ) (ps : List (Positioned X)) → AllByRecursion (λ (p : Positioned X). p.bytes_left < l) ps → AllByRecursion (λ (p : Positioned X). p.bytes_left ≤ l) ps
no-more l [] below = tt
no-more l (p ∷ ps) below = (let less = below.0 in omega (arith, less), no-more l ps below.1)

pub catch-ups-stop : (manifest : Kinds) (records : List (Elem × Record)) (ps : List (Positioned CatchUpEntry)) → Falls ps → IsStrictlySortedBy elem_cmp (keys_of records) →
    AreStopsOf (first_left (catch_up_tests manifest records (items_of ps)) ps) (λ mine. part mine (redelivered_all manifest records (items_of ps))) (λ mine. caught_up manifest (part mine records) (catch_ups mine ps))
catch-ups-stop manifest records [] falls rising = nothing-stops records (λ mine. part mine records)
catch-ups-stop manifest records (p ∷ ps) falls rising =
    let d = p.item in
    let ends = λ (mine : Elem → Bool). part mine (redelivered_all manifest (redelivered manifest records d) (items_of ps)) in
    let tests = catch_up_tests manifest (redelivered manifest records d) (items_of ps) in
    elim (is_caught_up manifest (record_at records d.message.to) d) as (λ b. is_caught_up manifest (record_at records d.message.to) d ≡ b → AreStopsOf (first_left (b ∷ tests) (p ∷ ps)) ends (come manifest records p ps rising)) [
      | true ↦ λ scans.
          one-place-on (first_left tests ps) ends (come manifest records p ps rising) (come_next manifest records p ps rising) (goes-on manifest records p ps rising scans)
          (catch-ups-stop manifest (redelivered manifest records d) ps falls.1 (rising-caught_up manifest records (d ∷ []) rising))
      | false ↦ λ fails.
          first-place p.bytes_left d.message.to ends (come manifest records p ps rising)
          (λ mine k at. stop-after manifest mine p.bytes_left (p ∷ ps) (part mine records) k (le_refl p.bytes_left, no-more p.bytes_left ps falls.0) at)
          (stops-here manifest records p ps rising fails)
    ] refl
