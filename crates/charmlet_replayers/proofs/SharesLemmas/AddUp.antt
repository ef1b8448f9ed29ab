-- What the replayers' shares come to together.
use Rattle.std.proofs.Common.{◌≡◌, ℕ, ◌+◌, ◌<◌, ◌==◌, ◌&&◌, Bool, true, false, cond, List, [], ◌∷◌, ◌++◌, refl, sym, ap, ◌∙◌, arith, if◌then◌else◌}
use Rattle.std.specs.Prelude.{Option, Some, None, is_some, not}
use Rattle.std.specs.List.Sorted.{IsStrictlySortedBy}
use Rattle.std.specs.Map.{keys_of}
use Rattle.charmlet_model.specs.declared.kind.Kind.{Kind}
use Rattle.charmlet_model.specs.declared.logged.CatchUpEntry.{CatchUpEntry}
use Rattle.charmlet_model.specs.declared.logged.Effect.{Effect}
use Rattle.charmlet_model.specs.declared.logged.Logged.{Logged}
use Rattle.charmlet_model.specs.declared.logged.Logged.TheVariants.{Accept, Deliver}
use Rattle.charmlet_model.specs.declared.message.Message.{Message}
use Rattle.charmlet_model.specs.declared.message.Outgoing.{Outgoing}
use Rattle.charmlet_model.specs.declared.names.Elem.{Elem}
use Rattle.charmlet_model.specs.declared.reaction.Reaction.{Reaction}
use Rattle.charmlet_model.specs.declared.state.Record.{Record}
use Rattle.charmlet_model.specs.Names.{elem_cmp}
use Rattle.charmlet_model.specs.World.{advanced, message_among, record_at}
use Rattle.charmlet_model.proofs.Maps.{elem_total, rising-insert_entry}
use Rattle.charmlet_record.specs.Reading.{Kinds}
use Rattle.charmlet_image.specs.Positioned.{items_of}
use Rattle.charmlet_recovery.specs.Bases.{is_skipped, reaction, records_after, redelivered}
use Rattle.charmlet_recovery.specs.Blanks.{array_is, constructs, made_by_catch_up, one_if, wanted_by_records}
use Rattle.charmlet_recovery.specs.Replays.{LogScan, scanned}
use Rattle.charmlet_log_scan.specs.declared.partition.task.Task.{Task}
use Rattle.charmlet_log_scan.specs.Partition.Dispatch.{dispatched, dispatched_at, dispatched_for}
use Rattle.charmlet_log_scan.specs.Partition.Parts.{catch_ups, is_of_worker, part, task_at, task_if, tasks}
use Rattle.charmlet_log_scan.proofs.PartitionLemmas.CatchUps.{part-after, part-stays}
use Rattle.charmlet_log_scan.proofs.PartitionLemmas.Parts.{record-part}
use Rattle.charmlet_replayers.specs.Replayer.Tasks.{taken_by, taken_by_all}
use Rattle.charmlet_replayers.specs.Shares.Laws.{CatchUpsAddUp, RecordsAddUp, TasksAddUp, together}
use Rattle.charmlet_replayers.proofs.SharesLemmas.Sums.{one-of, together-both, together-none, together-same}

-- one replayer has it, and each has the rest of its own
one-more : (n w a b : ℕ) (share : ℕ → ℕ) → w < n → together n share ≡ b → together n (λ v. (if w == v then a else 0) + share v) ≡ a + b
one-more n w a b share less rest =
    let both = together-both n (λ v. if w == v then a else 0) share in
    let own = one-of n w a less in
    omega (arith, both, own, rest)

-- ---- records

pub records-add-up : RecordsAddUp
records-add-up worker workers manifest kind [] within = together-none workers
records-add-up worker workers manifest kind (e ∷ es) within =
    let a = one_if (is_some e.1.state && array_is manifest kind e.0.array) in
    let share = λ (v : ℕ). wanted_by_records manifest kind (part (is_of_worker worker v) es) in
    together-same workers (λ v. wanted_by_records manifest kind (part (is_of_worker worker v) (e ∷ es))) (λ v. (if worker e.0 == v then a else 0) + share v)
    (λ v. elim (worker e.0 == v) as (λ b. wanted_by_records manifest kind (cond b (e ∷ part (is_of_worker worker v) es) (part (is_of_worker worker v) es)) ≡ (if b then a else 0) + share v) [ true ↦ refl | false ↦ omega arith ])
    ∙ one-more workers (worker e.0) a (wanted_by_records manifest kind es) share (within e.0) (records-add-up worker workers manifest kind es within)

-- ---- the catch-up list

module _ (manifest : Kinds) where
  redelivered-own : (mine : Elem → Bool) (records : List (Elem × Record)) (d : CatchUpEntry) → IsStrictlySortedBy elem_cmp (keys_of records) → mine d.message.to ≡ true →
      redelivered manifest (part mine records) d ≡ part mine (redelivered manifest records d)
  redelivered-own mine records d rising own =
      let x = d.message.to in
      ap (λ r. cond (is_skipped r d) (part mine records) (records_after (part mine records) x r (reaction manifest r d.message))) (record-part mine records x own)
      ∙ elim (is_skipped (record_at records x) d) as (λ b.
      cond b (part mine records) (records_after (part mine records) x (record_at records x) (reaction manifest (record_at records x) d.message))
      ≡ part mine (cond b records (records_after records x (record_at records x) (reaction manifest (record_at records x) d.message)))) [
        | true ↦ refl
        | false ↦ part-after mine records x (record_at records x) (reaction manifest (record_at records x) d.message) rising own
      ]

  redelivered-others : (mine : Elem → Bool) (records : List (Elem × Record)) (d : CatchUpEntry) → mine d.message.to ≡ false →
      part mine (redelivered manifest records d) ≡ part mine records
  redelivered-others mine records d other =
      let x = d.message.to in
      elim (is_skipped (record_at records x) d) as (λ b.
      part mine (cond b records (records_after records x (record_at records x) (reaction manifest (record_at records x) d.message))) ≡ part mine records) [
        | true ↦ refl
        | false ↦ part-stays mine records x (record_at records x) (reaction manifest (record_at records x) d.message) other
      ]

  rising-redelivered : (records : List (Elem × Record)) (d : CatchUpEntry) → IsStrictlySortedBy elem_cmp (keys_of records) → IsStrictlySortedBy elem_cmp (keys_of (redelivered manifest records d))
  rising-redelivered records d rising =
      elim (is_skipped (record_at records d.message.to) d) as (λ b. IsStrictlySortedBy elem_cmp (keys_of (cond b records (records_after records d.message.to (record_at records d.message.to) (reaction manifest (record_at records d.message.to) d.message))))) [
        | true ↦ rising
        | false ↦ moved (reaction manifest (record_at records d.message.to) d.message)
      ]
    where
      moved : (o : Option Reaction) → IsStrictlySortedBy elem_cmp (keys_of (records_after records d.message.to (record_at records d.message.to) o))
      moved None = rising
      moved (Some o) = rising-insert_entry elem_cmp elem_total d.message.to (advanced (record_at records d.message.to) o) records rising

-- what one delivery makes of an element with this record
abbrev made_here : Kinds → Kind → Record → CatchUpEntry → ℕ
made_here manifest kind r d = one_if (not (is_skipped r d) && constructs r (reaction manifest r d.message) && array_is manifest kind d.message.to.array)

pub catch-ups-add-up : CatchUpsAddUp
catch-ups-add-up worker workers manifest kind records [] within rising = together-none workers
catch-ups-add-up worker workers manifest kind records (p ∷ ps) within rising =
    let d = p.item in
    let x = d.message.to in
    let a = made_here manifest kind (record_at records x) d in
    let next = redelivered manifest records d in
    let share = λ (v : ℕ). made_by_catch_up manifest kind (part (is_of_worker worker v) next) (items_of (catch_ups (is_of_worker worker v) ps)) in
    together-same workers (λ v. made_by_catch_up manifest kind (part (is_of_worker worker v) records) (items_of (catch_ups (is_of_worker worker v) (p ∷ ps)))) (λ v. (if worker x == v then a else 0) + share v)
    (λ v.
    let mine = is_of_worker worker v in
    let cs = catch_ups mine ps in
    elim (worker x == v) as (λ b. (worker x == v) ≡ b → made_by_catch_up manifest kind (part mine records) (items_of (cond b (p ∷ cs) cs)) ≡ (if b then a else 0) + share v) [
      | true ↦ λ own.
          let found = record-part mine records x own in
          let went = redelivered-own manifest mine records d rising own in
          λ i. made_here manifest kind (found i) d + made_by_catch_up manifest kind (went i) (items_of cs)
      | false ↦ λ other.
          let same : made_by_catch_up manifest kind (part mine records) (items_of cs) ≡ share v = ap (λ rs. made_by_catch_up manifest kind rs (items_of cs)) (sym (redelivered-others manifest mine records d other)) in
          omega (arith, same)
    ] refl)
    ∙ one-more workers (worker x) a (made_by_catch_up manifest kind next (items_of ps)) share (within x)
    (catch-ups-add-up worker workers manifest kind next ps within (rising-redelivered manifest records d rising))

-- ---- the tasks of a log

taken-append : (manifest : Kinds) (xs ys : List Task) (kind : Kind) → taken_by_all manifest (xs ++ ys) kind ≡ taken_by_all manifest xs kind + taken_by_all manifest ys kind
taken-append manifest [] ys kind = omega arith
taken-append manifest (x ∷ xs) ys kind = let rest = taken-append manifest xs ys kind in omega (arith, rest)

-- the delivery of this message, of all replayers
message-share : (worker : Elem → ℕ) (workers : ℕ) (manifest : Kinds) (kind : Kind) (left : ℕ) (o : Option Message) (received : ℕ) (effect : Effect) (sends : List Outgoing) (b : ℕ) (share : ℕ → ℕ) → ((x : Elem) → worker x < workers) →
    together workers share ≡ b →
    together workers (λ v. taken_by_all manifest (task_if (is_of_worker worker v) left o received effect sends) kind + share v) ≡ dispatched_for manifest kind o effect + b
message-share worker workers manifest kind left None received effect sends b share within rest =
    together-same workers (λ v. 0 + share v) share (λ v. omega arith) ∙ rest ∙ none-more
  where
    none-more : b ≡ 0 + b
    none-more = omega arith
message-share worker workers manifest kind left (Some m) received effect sends b share within rest =
    let t : Task = record { bytes_left = left; message = m; received = received; effect = effect; sends = sends } in
    let a = dispatched_for manifest kind (Some m) effect in
    together-same workers (λ v. taken_by_all manifest (task_if (is_of_worker worker v) left (Some m) received effect sends) kind + share v) (λ v. (if worker m.to == v then a else 0) + share v)
    (λ v. elim (worker m.to == v) as (λ c. taken_by_all manifest (cond c (t ∷ []) []) kind + share v ≡ (if c then a else 0) + share v) [ true ↦ (let none : taken_by manifest t kind + 0 ≡ a = omega arith in omega (arith, none)) | false ↦ refl ])
    ∙ one-more workers (worker m.to) a b share (within m.to) rest

record-share : (worker : Elem → ℕ) (workers : ℕ) (manifest : Kinds) (kind : Kind) (left : ℕ) (scan : LogScan) (l : Logged) (b : ℕ) (share : ℕ → ℕ) → ((x : Elem) → worker x < workers) → together workers share ≡ b →
    together workers (λ v. taken_by_all manifest (task_at (is_of_worker worker v) left scan l) kind + share v) ≡ dispatched_at manifest kind scan l + b
record-share worker workers manifest kind left scan (Accept client number to entry words) b share within rest =
    together-same workers (λ v. 0 + share v) share (λ v. omega arith) ∙ rest ∙ none-more
  where
    none-more : b ≡ 0 + b
    none-more = omega arith
record-share worker workers manifest kind left scan (Deliver id received effect sends) b share within rest =
    message-share worker workers manifest kind left (message_among id scan.pending) received effect sends b share within rest

pub tasks-add-up : TasksAddUp
tasks-add-up worker workers manifest kind scan [] within = together-none workers
tasks-add-up worker workers manifest kind scan (p ∷ log) within =
    let l = p.item in
    let share = λ (v : ℕ). taken_by_all manifest (tasks (is_of_worker worker v) (scanned scan l) log) kind in
    together-same workers (λ v. taken_by_all manifest (task_at (is_of_worker worker v) p.bytes_left scan l ++ tasks (is_of_worker worker v) (scanned scan l) log) kind)
    (λ v. taken_by_all manifest (task_at (is_of_worker worker v) p.bytes_left scan l) kind + share v)
    (λ v. taken-append manifest (task_at (is_of_worker worker v) p.bytes_left scan l) (tasks (is_of_worker worker v) (scanned scan l) log) kind)
    ∙ record-share worker workers manifest kind p.bytes_left scan l (dispatched manifest kind (scanned scan l) (items_of log)) share within
    (tasks-add-up worker workers manifest kind (scanned scan l) log within)
