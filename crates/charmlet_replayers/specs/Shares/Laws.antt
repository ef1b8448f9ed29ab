-- What the replayers' shares come to together.
use Rattle.std.specs.Prelude.{◌≡◌, ℕ, ◌+◌, ◌<◌, zero, suc, List, length, slice_get, Some, sum}
use Rattle.std.specs.List.Sorted.{IsStrictlySortedBy}
use Rattle.std.specs.Map.{keys_of}
use Rattle.charmlet_model.specs.declared.kind.Kind.{Kind}
use Rattle.charmlet_model.specs.declared.logged.CatchUpEntry.{CatchUpEntry}
use Rattle.charmlet_model.specs.declared.logged.Logged.{Logged}
use Rattle.charmlet_model.specs.declared.names.Elem.{Elem}
use Rattle.charmlet_model.specs.declared.state.Record.{Record}
use Rattle.charmlet_model.specs.Names.{elem_cmp}
use Rattle.charmlet_record.specs.declared.positioned.Positioned.{Positioned}
use Rattle.charmlet_record.specs.Reading.{Kinds}
use Rattle.charmlet_image.specs.Positioned.{items_of}
use Rattle.charmlet_recovery.specs.Blanks.{made_by_catch_up, wanted_by_records}
use Rattle.charmlet_recovery.specs.Replays.{LogScan}
use Rattle.charmlet_log_scan.specs.Partition.Dispatch.{dispatched}
use Rattle.charmlet_log_scan.specs.Partition.Parts.{catch_ups, is_of_worker, part, tasks}
use Rattle.charmlet_replayers.specs.Replayer.Tasks.{taken_by_all}

-- what the first so many replayers have together
abbrev pub together : ℕ → (ℕ → ℕ) → ℕ
together zero share = 0
together (suc workers) share = together workers share + share workers

-- the same as a sum over a list that has each replayer's share
abbrev pub TogetherIsSum : Type 0
TogetherIsSum = (shares : List ℕ) (share : ℕ → ℕ) →
    ((v n : ℕ) → slice_get shares v ≡ Some n → n ≡ share v) →
    sum shares ≡ together (length shares) share

-- the blanks for the records of an image that have a state
abbrev pub RecordsAddUp : Type 0
RecordsAddUp = (worker : Elem → ℕ) (workers : ℕ) (manifest : Kinds) (kind : Kind)
    (records : List (Elem × Record)) → ((x : Elem) → worker x < workers) →
    together workers (λ v. wanted_by_records manifest kind (part (is_of_worker worker v) records))
    ≡ wanted_by_records manifest kind records

-- those for the constructions of its catch-up list
abbrev pub CatchUpsAddUp : Type 0
CatchUpsAddUp = (worker : Elem → ℕ) (workers : ℕ) (manifest : Kinds) (kind : Kind)
    (records : List (Elem × Record)) (ds : List (Positioned CatchUpEntry)) →
    ((x : Elem) → worker x < workers) → IsStrictlySortedBy elem_cmp (keys_of records) →
    together workers (λ v. made_by_catch_up manifest kind (part (is_of_worker worker v) records)
    (items_of (catch_ups (is_of_worker worker v) ds)))
    ≡ made_by_catch_up manifest kind records (items_of ds)

-- and those for the constructions of a log that are written, which a scan dispatches
abbrev pub TasksAddUp : Type 0
TasksAddUp = (worker : Elem → ℕ) (workers : ℕ) (manifest : Kinds) (kind : Kind) (scan : LogScan)
    (log : List (Positioned Logged)) → ((x : Elem) → worker x < workers) →
    together workers (λ v. taken_by_all manifest (tasks (is_of_worker worker v) scan log) kind)
    ≡ dispatched manifest kind scan (items_of log)
