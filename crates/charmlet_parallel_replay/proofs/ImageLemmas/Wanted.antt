-- What replayers need of blanks for an image is together what all of it needs.
use Rattle.std.proofs.Common.{◌≡◌, ℕ, zero, suc, ◌+◌, ◌<◌, ◌≤◌, ◌==◌, ◌&&◌, max, Bool, true, false, cond, not, List, [], ◌∷◌, refl, sym, ap, ◌∙◌, arith, if◌then◌else◌}
use Rattle.std.specs.Prelude.{None}
use Rattle.std.proofs.lemmas.Bool.{eqb-false, eqb-true}
use Rattle.std.specs.BTreeMap.{insert_entry}
use Rattle.std.specs.List.Sorted.{IsStrictlySortedBy}
use Rattle.std.specs.Map.{keys_of}
use Rattle.charmlet_model.specs.declared.kind.Kind.{Kind}
use Rattle.charmlet_model.specs.declared.logged.CatchUpEntry.{CatchUpEntry}
use Rattle.charmlet_model.specs.declared.logged.Effect.TheVariants.{Constructed}
use Rattle.charmlet_model.specs.declared.names.Elem.{Elem}
use Rattle.charmlet_model.specs.declared.state.Record.{Record}
use Rattle.charmlet_model.specs.Names.{elem_cmp}
use Rattle.charmlet_model.specs.World.{record_at}
use Rattle.charmlet_model.proofs.Maps.{elem_total, rising-insert_entry}
use Rattle.charmlet_record.specs.declared.positioned.Positioned.{Positioned}
use Rattle.charmlet_record.specs.Reading.{Kinds}
use Rattle.charmlet_image.specs.Positioned.{items_of}
use Rattle.charmlet_recovery.specs.Bases.{is_skipped}
use Rattle.charmlet_recovery.specs.Blanks.{array_is, one_if, wanted_by_catch_up, wanted_by_records, with_count}
use Rattle.charmlet_recovery.specs.Faults.{same_effect}
use Rattle.charmlet_log_scan.specs.Partition.Parts.{catch_ups, is_of_worker, part}
use Rattle.charmlet_log_scan.proofs.PartitionLemmas.Parts.{part-skips, part-takes, record-part}
use Rattle.charmlet_replayers.specs.Shares.Laws.{together}
use Rattle.charmlet_replayers.proofs.SharesLemmas.AddUp.{records-add-up}
use Rattle.charmlet_replayers.proofs.SharesLemmas.Sums.{one-of, together-both, together-none, together-same}
use Rattle.charmlet_parallel_replay.specs.Image.Filled.{wanted_by_worker}

-- ---- the counts of a replayer's elements

-- a record of which only the count of received messages is known
abbrev count_of : ℕ → Record
count_of received = record { state = None; sent = 0; received = received }

abbrev counted : Record → CatchUpEntry → Record
counted r d = count_of (max r.received d.received)

count-own : (mine : Elem → Bool) (counts : List (Elem × Record)) (d : CatchUpEntry) → IsStrictlySortedBy elem_cmp (keys_of counts) → mine d.message.to ≡ true → with_count (part mine counts) d ≡ part mine (with_count counts d)
count-own mine counts d rising own =
    let x = d.message.to in
    ap (λ (r : Record). insert_entry elem_cmp (part mine counts) x (counted r d)) (record-part mine counts x own)
    ∙ sym (part-takes mine counts x (counted (record_at counts x) d) rising own)

count-others : (mine : Elem → Bool) (counts : List (Elem × Record)) (d : CatchUpEntry) → mine d.message.to ≡ false → part mine (with_count counts d) ≡ part mine counts
count-others mine counts d other = part-skips mine counts d.message.to (counted (record_at counts d.message.to) d) other

rising-count : (counts : List (Elem × Record)) (d : CatchUpEntry) → IsStrictlySortedBy elem_cmp (keys_of counts) → IsStrictlySortedBy elem_cmp (keys_of (with_count counts d))
rising-count counts d rising = rising-insert_entry elem_cmp elem_total d.message.to (counted (record_at counts d.message.to) d) counts rising

-- ---- the catch-up list

-- one replayer has it, and each has the rest of its own
one-more : (n w a b : ℕ) (share : ℕ → ℕ) → w < n → together n share ≡ b → together n (λ v. (if w == v then a else 0) + share v) ≡ a + b
one-more n w a b share less rest =
    let both = together-both n (λ v. if w == v then a else 0) share in
    let own = one-of n w a less in
    omega (arith, both, own, rest)

-- what one delivery needs, where its receiver has this record
abbrev pub wanted_here : Kinds → Kind → Record → CatchUpEntry → ℕ
wanted_here manifest kind r d = one_if (not (is_skipped r d) && same_effect d.effect Constructed && array_is manifest kind d.message.to.array)

wanted-add-up : (worker : Elem → ℕ) (workers : ℕ) (manifest : Kinds) (kind : Kind) (counts : List (Elem × Record)) (ds : List (Positioned CatchUpEntry)) → ((x : Elem) → worker x < workers) → IsStrictlySortedBy elem_cmp (keys_of counts) →
    together workers (λ v. wanted_by_catch_up manifest kind (part (is_of_worker worker v) counts) (items_of (catch_ups (is_of_worker worker v) ds))) ≡ wanted_by_catch_up manifest kind counts (items_of ds)
wanted-add-up worker workers manifest kind counts [] within rising = together-none workers
wanted-add-up worker workers manifest kind counts (p ∷ ps) within rising =
    let d = p.item in
    let x = d.message.to in
    let a = wanted_here manifest kind (record_at counts x) d in
    let next = with_count counts d in
    let share = λ (v : ℕ). wanted_by_catch_up manifest kind (part (is_of_worker worker v) next) (items_of (catch_ups (is_of_worker worker v) ps)) in
    together-same workers (λ v. wanted_by_catch_up manifest kind (part (is_of_worker worker v) counts) (items_of (catch_ups (is_of_worker worker v) (p ∷ ps)))) (λ v. (if worker x == v then a else 0) + share v)
    (λ v.
    let mine = is_of_worker worker v in
    let cs = catch_ups mine ps in
    elim (worker x == v) as (λ b. (worker x == v) ≡ b → wanted_by_catch_up manifest kind (part mine counts) (items_of (cond b (p ∷ cs) cs)) ≡ (if b then a else 0) + share v) [
      | true ↦ λ own.
          let found = record-part mine counts x own in
          let went = count-own mine counts d rising own in
          λ i. wanted_here manifest kind (found i) d + wanted_by_catch_up manifest kind (went i) (items_of cs)
      | false ↦ λ other.
          let same : wanted_by_catch_up manifest kind (part mine counts) (items_of cs) ≡ share v = ap (λ rs. wanted_by_catch_up manifest kind rs (items_of cs)) (sym (count-others mine counts d other)) in
          omega (arith, same)
    ] refl)
    ∙ one-more workers (worker x) a (wanted_by_catch_up manifest kind next (items_of ps)) share (within x)
    (wanted-add-up worker workers manifest kind next ps within (rising-count counts d rising))

-- ---- all of it

pub all-wanted : (worker : Elem → ℕ) (workers : ℕ) (manifest : Kinds) (kind : Kind) (records : List (Elem × Record)) (ds : List (Positioned CatchUpEntry)) → ((x : Elem) → worker x < workers) → IsStrictlySortedBy elem_cmp (keys_of records) →
    together workers (wanted_by_worker worker manifest records ds kind) ≡ wanted_by_records manifest kind records + wanted_by_catch_up manifest kind records (items_of ds)
all-wanted worker workers manifest kind records ds within rising =
    let both = together-both workers (λ v. wanted_by_records manifest kind (part (is_of_worker worker v) records))
    (λ v. wanted_by_catch_up manifest kind (part (is_of_worker worker v) records) (items_of (catch_ups (is_of_worker worker v) ds))) in
    let one = records-add-up worker workers manifest kind records within in
    let two = wanted-add-up worker workers manifest kind records ds within rising in
    omega (arith, both, one, two)

-- what the first replayers need is no more than what all do
pub first-need : (n i : ℕ) (share : ℕ → ℕ) → i < n → together i share + share i ≤ together n share
first-need zero i share less = absurd (let never : ⊥ = omega (arith, less) in never)
first-need (suc n) i share less = by (i == n) refl (λ earlier. first-need n i share earlier)
  where
    by : (b : Bool) → (i == n) ≡ b → (i < n → together i share + share i ≤ together n share) → together i share + share i ≤ together n share + share n
    by true is earlier =
        let same = eqb-true i n is in
        let sums = ap (λ m. together m share) same in
        let last = ap share same in
        omega (arith, sums, last)
    by false apart earlier =
        let other = eqb-false i n apart in
        let rest = earlier (omega (arith, less, other)) in
        omega (arith, rest)
