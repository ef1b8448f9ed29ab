-- The laws by which several replayers replay what one would.
use Rattle.std.specs.Prelude.{◌≡◌, ℕ, ◌+◌, ◌<◌, List, ◌∷◌, ◌++◌, length, Some, None, false}
use Rattle.std.specs.List.Sorted.{IsStrictlySortedBy}
use Rattle.std.specs.Map.{keys_of}
use Rattle.charmlet_model.specs.declared.names.Elem.{Elem}
use Rattle.charmlet_model.specs.declared.state.Record.{Record}
use Rattle.charmlet_model.specs.declared.logged.CatchUpEntry.{CatchUpEntry}
use Rattle.charmlet_model.specs.declared.logged.Logged.{Logged}
use Rattle.charmlet_model.specs.Names.{elem_cmp}
use Rattle.charmlet_model.specs.Spelling.{spell_caught_up}
use Rattle.charmlet_model.specs.World.{World, world}
use Rattle.charmlet_record.specs.declared.positioned.Positioned.{Positioned}
use Rattle.charmlet_record.specs.Places.{log_places, with_places}
use Rattle.charmlet_record.specs.Reading.{Kinds}
use Rattle.charmlet_image.specs.Positioned.{items_of}
use Rattle.charmlet_recovery.specs.Bases.{events_of, redelivered_all}
use Rattle.charmlet_recovery.specs.Faults.{catch_up_tests, event_tests, first_failure}
use Rattle.charmlet_recovery.specs.Replays.{IsBeginning, LogScan, scan_after, scans}
use Rattle.charmlet_log_scan.specs.Partition.Parts.{Done, Falls, caught_up, catch_ups, earliest_stop, first_left, is_of_worker, part, scan_tests, stop_of, tasks, worked}

-- Each replayer makes the deliveries to its own elements again, from its part of the records. The
-- earliest place at which one stops is the first fault of the list, and where none stops, each has
-- its part of the records to which the list leads.
abbrev pub CatchUpByWorkers : Type 0
CatchUpByWorkers = (worker : Elem → ℕ) (workers : ℕ) (manifest : Kinds)
    (records : List (Elem × Record)) (ds : List (Positioned CatchUpEntry)) → Falls ds →
    ((x : Elem) → worker x < workers) → IsStrictlySortedBy elem_cmp (keys_of records) →
    (earliest_stop workers (λ w. stop_of (caught_up manifest (part (is_of_worker worker w) records)
    (catch_ups (is_of_worker worker w) ds)))
    ≡ first_left (catch_up_tests manifest records (items_of ds)) ds)
    × (first_failure (catch_up_tests manifest records (items_of ds)) ≡ None → (w : ℕ) →
    caught_up manifest (part (is_of_worker worker w) records) (catch_ups (is_of_worker worker w) ds)
    ≡ Done (part (is_of_worker worker w) (redelivered_all manifest records (items_of ds))))

-- The same of the events, where a scan finds no fault: the earliest place at which a replayer stops
-- is that of the first event that can't happen as it is written. Where none stops, each has its
-- part of the records of the world after the events, and the scan ends as that world is.
abbrev pub EventsByWorkers : Type 0
EventsByWorkers = (worker : Elem → ℕ) (workers : ℕ) (w : World) (before : ℕ) (scan : LogScan)
    (log : List (Positioned Logged)) → Falls log → ((x : Elem) → worker x < workers) →
    IsStrictlySortedBy elem_cmp (keys_of w.records) → IsBeginning w scan →
    first_failure (scan_tests w.manifest scan before (items_of log)) ≡ None →
    (earliest_stop workers (λ v. stop_of (worked w.manifest (part (is_of_worker worker v) w.records)
    (tasks (is_of_worker worker v) scan log)))
    ≡ first_left (event_tests w before (items_of log)) log)
    × (first_failure (event_tests w before (items_of log)) ≡ None →
    IsBeginning (world w (events_of (items_of log))) (scan_after scan (items_of log))
    × ((v : ℕ) → worked w.manifest (part (is_of_worker worker v) w.records)
    (tasks (is_of_worker worker v) scan log)
    ≡ Done (part (is_of_worker worker v) (world w (events_of (items_of log))).records)))

-- Where the scan finds a fault, the replayers do what stands before it. The first event that can't
-- happen as it is written is then the first one of these, and if there is none that of the scan.
abbrev pub ScansStop : Type 0
ScansStop = (w : World) (before : ℕ) (scan : LogScan) (sooner later : List Logged) (l : Logged) →
    IsBeginning w scan → scans w.manifest (scan_after scan sooner) (before + length sooner) l
    ≡ false →
    (first_failure (event_tests w before sooner) ≡ None →
    first_failure (event_tests w before (sooner ++ l ∷ later)) ≡ Some (length sooner))
    × ((i : ℕ) → first_failure (event_tests w before sooner) ≡ Some i →
    first_failure (event_tests w before (sooner ++ l ∷ later)) ≡ Some i)

-- The records of a catch-up list and of a log begin one after the other, so the one from which on
-- the most bytes are left is the first.
abbrev pub PlacesFall : Type 0
PlacesFall = ((following : ℕ) (ds : List CatchUpEntry) →
    Falls (with_places spell_caught_up following ds))
    × ((following : ℕ) (batches : List (List Logged)) → Falls (log_places following batches))
