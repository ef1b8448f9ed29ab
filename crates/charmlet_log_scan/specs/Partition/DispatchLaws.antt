-- The laws of the blanks that a scan over a log dispatches, and of the ids that it gives.
use Rattle.std.specs.Prelude.{◌≡◌, ℕ, ◌+◌, ◌<◌, ◌≤◌, List, ◌∷◌, ◌++◌, None, Some, true}
use Rattle.std.specs.List.{AllByRecursion}
use Rattle.charmlet_model.specs.declared.kind.Kind.{Kind}
use Rattle.charmlet_model.specs.declared.message.Message.{Message}
use Rattle.charmlet_model.specs.declared.message.Outgoing.{Outgoing}
use Rattle.charmlet_model.specs.declared.names.MsgId.{MsgId}
use Rattle.charmlet_model.specs.declared.logged.Effect.TheVariants.{Constructed}
use Rattle.charmlet_model.specs.declared.logged.Logged.{Logged}
use Rattle.charmlet_model.specs.declared.logged.Logged.TheVariants.{Deliver}
use Rattle.charmlet_model.specs.World.{World, message_among}
use Rattle.charmlet_record.specs.Reading.{Kinds}
use Rattle.charmlet_record.specs.Written.{IsLogged}
use Rattle.charmlet_image.specs.declared.header.Mark.{Mark}
use Rattle.charmlet_image.specs.Images.{Image}
use Rattle.charmlet_image.specs.Written.{IsImage}
use Rattle.charmlet_recovery.specs.Bases.{base, events_of}
use Rattle.charmlet_recovery.specs.Blanks.{array_is, made_by_catch_up, made_by_events, wanted, wanted_by_records}
use Rattle.charmlet_recovery.specs.Faults.{catch_up_tests, event_tests, first_failure, pending_tests}
use Rattle.charmlet_recovery.specs.Replays.{IsBeginning, LogScan, scan_after, scanned, scans}
use Rattle.charmlet_log_scan.specs.Partition.Dispatch.{dispatched}
use Rattle.charmlet_log_scan.specs.Partition.Known.{AreGiven, given_by}

-- while no event is at fault, the blanks that are dispatched are those that the events take
abbrev pub DispatchedAreMade : Type 0
DispatchedAreMade = (w : World) (before : ℕ) (scan : LogScan) (log : List Logged) (kind : Kind) →
    IsBeginning w scan → first_failure (event_tests w before log) ≡ None →
    dispatched w.manifest kind scan log ≡ made_by_events kind w (events_of log)

-- A restart has all blanks that are wanted by what is written. So where the catch-up list and the
-- pending messages have no fault and a scan lacks a blank for the next construction that is
-- written, an earlier event is at fault.
abbrev pub LackIsFault : Type 0
LackIsFault = (mark : Mark) (image : Image) (before given : ℕ) (scan : LogScan) (kind : Kind)
    (sooner later : List Logged) (id : MsgId) (received : ℕ) (sends : List Outgoing)
    (m : Message) → IsImage mark image → AllByRecursion (IsLogged image.manifest) sooner →
    first_failure (catch_up_tests image.manifest image.records image.caught_up) ≡ None →
    first_failure (pending_tests (base image) image.pending) ≡ None →
    IsBeginning (base image) scan →
    message_among id (scan_after scan sooner).pending ≡ Some m →
    array_is image.manifest kind m.to.array ≡ true →
    wanted image (sooner ++ Deliver id received Constructed sends ∷ later) kind ≤ given →
    given < wanted_by_records image.manifest kind image.records
    + made_by_catch_up image.manifest kind image.records image.caught_up
    + dispatched image.manifest kind scan sooner + 1 →
    first_failure (event_tests (base image) before sooner) ≡ None → ⊥

-- While a scan finds no fault, each pending message keeps a number that its origin has given, so a
-- message with the next number of its origin is no pending one.
abbrev pub ScanKnowsIds : Type 0
ScanKnowsIds = (manifest : Kinds) (scan : LogScan) → AreGiven scan →
    ((before : ℕ) (l : Logged) → scans manifest scan before l ≡ true → AreGiven (scanned scan l))
    × ((id : MsgId) → given_by scan id.origin < id.number → message_among id scan.pending ≡ None)
