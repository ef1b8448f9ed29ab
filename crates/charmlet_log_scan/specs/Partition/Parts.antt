-- What each of several replayers has of a recovery, and what it makes of that.
use Rattle.std.specs.Prelude.{ℕ, ◌+◌, ◌<◌, ◌==◌, ◌&&◌, suc, zero, nat_lt, Bool, true, false, List, [], ◌∷◌, ◌++◌, Option, Some, None, if◌then◌else◌, ⊤}
use Rattle.std.specs.List.{AllByRecursion}
use Rattle.charmlet_model.specs.declared.names.Elem.{Elem}
use Rattle.charmlet_model.specs.declared.message.Message.{Message}
use Rattle.charmlet_model.specs.declared.message.Outgoing.{Outgoing}
use Rattle.charmlet_model.specs.declared.state.Record.{Record}
use Rattle.charmlet_model.specs.declared.logged.CatchUpEntry.{CatchUpEntry}
use Rattle.charmlet_model.specs.declared.logged.Effect.{Effect}
use Rattle.charmlet_model.specs.declared.logged.Logged.{Logged}
use Rattle.charmlet_model.specs.declared.logged.Logged.TheVariants.{Accept, Deliver}
use Rattle.charmlet_model.specs.World.{record_at, message_among}
use Rattle.charmlet_record.specs.declared.positioned.Positioned.{Positioned}
use Rattle.charmlet_record.specs.Reading.{Kinds}
use Rattle.charmlet_recovery.specs.Bases.{reaction, records_after, redelivered}
use Rattle.charmlet_recovery.specs.Faults.{is_caught_up, matches_reaction, takes}
use Rattle.charmlet_recovery.specs.Replays.{LogScan, scanned, scans}
use Rattle.charmlet_log_scan.specs.declared.partition.task.Task.{Task}

-- those of the records whose elements are a replayer's
abbrev pub part : (Elem → Bool) → List (Elem × Record) → List (Elem × Record)
part mine [] = []
part mine (e ∷ es) = if mine e.0 then e ∷ part mine es else part mine es

-- What a replayer comes to: it stops at a record from whose first byte on so many bytes are left,
-- or has these records in the end.
pub data Worked : Type 0 where
  Stopped : ℕ → Worked
  Done : List (Elem × Record) → Worked

-- how many bytes are left where it stopped, if it did
abbrev pub stop_of : Worked → Option ℕ
stop_of (Stopped left) = Some left
stop_of (Done records) = None

-- of two places the earlier one, from which on more bytes are left, and else the one that there is
abbrev pub earlier : Option ℕ → Option ℕ → Option ℕ
earlier None b = b
earlier (Some i) None = Some i
earlier (Some i) (Some j) = Some (if nat_lt i j then j else i)

-- what is left at the earliest place at which one of the first replayers stopped
abbrev pub earliest_stop : ℕ → (ℕ → Option ℕ) → Option ℕ
earliest_stop zero stop = None
earliest_stop (suc n) stop = earlier (earliest_stop n stop) (stop n)

-- the elements of the replayer with this number
abbrev pub is_of_worker : (Elem → ℕ) → ℕ → Elem → Bool
is_of_worker worker w x = worker x == w

-- each record begins before those after it
abbrev pub Falls : {X : Type 0} → List (Positioned X) → Type 0
Falls [] = ⊤
Falls (p ∷ ps) = AllByRecursion (λ q. q.bytes_left < p.bytes_left) ps × Falls ps

-- what is left at the first record of which the test fails
abbrev pub first_left : {X : Type 0} → List Bool → List (Positioned X) → Option ℕ
first_left [] ps = None
first_left (b ∷ bs) [] = None
first_left (true ∷ bs) (p ∷ ps) = first_left bs ps
first_left (false ∷ bs) (p ∷ ps) = Some p.bytes_left

-- ---- the events

-- the delivery of this message is a replayer's task where its receiver is the replayer's
abbrev pub task_if : (Elem → Bool) → ℕ → Option Message → ℕ → Effect → List Outgoing →
    List Task
task_if mine left None received effect sends = []
task_if mine left (Some m) received effect sends = if mine m.to then record {
  bytes_left = left;
  message = m;
  received = received;
  effect = effect;
  sends = sends;
} ∷ [] else []

-- the task that a record of the log is for a replayer, if it is one
abbrev pub task_at : (Elem → Bool) → ℕ → LogScan → Logged → List Task
task_at mine left scan (Accept client number to entry words) = []
task_at mine left scan (Deliver id received effect sends) =
    task_if mine left (message_among id scan.pending) received effect sends

-- a replayer's tasks, by a scan over the log
abbrev pub tasks : (Elem → Bool) → LogScan → List (Positioned Logged) → List Task
tasks mine scan [] = []
tasks mine scan (p ∷ log) = task_at mine p.bytes_left scan p.item
    ++ tasks mine (scanned scan p.item) log

-- the receiver, which has this record, takes the message, and what is written is what it makes of
-- it
abbrev pub fits_task : Kinds → Record → Task → Bool
fits_task manifest r t = takes r t.message.entry
    && matches_reaction r (reaction manifest r t.message) t.received t.effect t.sends

-- the records once the task is done
abbrev pub done : Kinds → List (Elem × Record) → Task → List (Elem × Record)
done manifest records t = records_after records t.message.to (record_at records t.message.to)
    (reaction manifest (record_at records t.message.to) t.message)

-- the replayer makes the deliveries again in order, up to the first one that isn't as it is written
abbrev pub worked : Kinds → List (Elem × Record) → List Task → Worked
worked manifest records [] = Done records
worked manifest records (t ∷ ts) =
    if fits_task manifest (record_at records t.message.to) t
    then worked manifest (done manifest records t) ts else Stopped t.bytes_left

-- what the scan tests, record by record
abbrev pub scan_tests : Kinds → LogScan → ℕ → List Logged → List Bool
scan_tests manifest scan before [] = []
scan_tests manifest scan before (l ∷ log) = scans manifest scan before l
    ∷ scan_tests manifest (scanned scan l) (before + 1) log

-- ---- the catch-up list

-- the deliveries to a replayer's elements
abbrev pub catch_ups : (Elem → Bool) → List (Positioned CatchUpEntry) →
    List (Positioned CatchUpEntry)
catch_ups mine [] = []
catch_ups mine (p ∷ ps) = if mine p.item.message.to then p ∷ catch_ups mine ps
    else catch_ups mine ps

-- the replayer makes them again in order, up to the first one that is at fault
abbrev pub caught_up : Kinds → List (Elem × Record) → List (Positioned CatchUpEntry) → Worked
caught_up manifest records [] = Done records
caught_up manifest records (p ∷ ps) =
    if is_caught_up manifest (record_at records p.item.message.to) p.item
    then caught_up manifest (redelivered manifest records p.item) ps else Stopped p.bytes_left
