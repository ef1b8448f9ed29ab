-- The laws by which elements are replayed one by one, each from its own messages.
use Rattle.std.specs.Prelude.{is_some, ◌≡◌, ℕ, ◌+◌, List, ◌∷◌, ◌++◌, length, true, ◌&&◌, slice_index_or}
use Rattle.std.specs.Map.{lookup}
use Rattle.std.specs.BTreeMap.{is_at}
use Rattle.std.specs.Ordering.{nat_cmp}
use Rattle.charmlet_model.specs.declared.names.Elem.{Elem}
use Rattle.charmlet_model.specs.declared.state.Record.{Record}
use Rattle.charmlet_model.specs.declared.event.Event.{Event}
use Rattle.charmlet_model.specs.declared.logged.CatchUpEntry.{CatchUpEntry}
use Rattle.charmlet_model.specs.declared.logged.Logged.{Logged}
use Rattle.charmlet_model.specs.Row.{reply_to}
use Rattle.charmlet_model.specs.World.{client_of, World, world, record_at, IsLegal}
use Rattle.charmlet_model.specs.Fit.{IsFit}
use Rattle.charmlet_model.specs.Own.{own, received}
use Rattle.charmlet_model.specs.Logging.{logged_all}
use Rattle.charmlet_record.specs.Reading.{Kinds}
use Rattle.charmlet_recovery.specs.Bases.{redelivered_all}
use Rattle.charmlet_recovery.specs.Faults.{is_caught_up, first_failure, event_tests}
use Rattle.charmlet_recovery.specs.Replays.{or_else, last_reply, reply_if, LogScan, IsBeginning, listed, replayed, AreReceivers, replay_tests, replay_records, scans, scan_after, fits_own, message_of, caught_own, deliveries_to}

-- the records of a history are those that each element's own messages give, in whatever order the
-- elements are taken
abbrev pub ListsGiveRecords : Type 0
ListsGiveRecords = (w : World) (before : ℕ) (history : List Event) (xs : List Elem) → IsFit w →
    IsLegal w before history → AreReceivers w history xs →
    replayed w history w.records xs ≡ (world w history).records

-- a scan over the log of a history, which runs no entry method, gives each element the messages
-- that the history delivers to it
abbrev pub ListsNeedNoEntries : Type 0
ListsNeedNoEntries = (w : World) (before : ℕ) (history : List Event) (scan : LogScan) (x : Elem) →
    IsFit w → IsLegal w before history → IsBeginning w scan →
    listed x scan (logged_all w history) ≡ own x w history

-- such a scan ends with the pending messages, the counts of sent messages and the clients' rows of
-- the world, but for the replies' words
abbrev pub ScansEndAsWorlds : Type 0
ScansEndAsWorlds = (w : World) (before : ℕ) (history : List Event) (scan : LogScan) → IsFit w →
    IsLegal w before history → IsBeginning w scan →
    IsBeginning (world w history) (scan_after scan (logged_all w history))

-- In any log, the first record that the scan or its receiver's worker finds wrong is the first one
-- that can't happen as it is written.
abbrev pub ReplayFindsFirstFault : Type 0
ReplayFindsFirstFault = (w : World) (before : ℕ) (scan : LogScan) (log : List Logged) →
    IsBeginning w scan →
    first_failure (replay_tests w.manifest scan w.records before log)
    ≡ first_failure (event_tests w before log)

-- In any log, the record of an element that a replay comes to is what the messages listed for the
-- element make of it.
abbrev pub ReplayedRecordsAreOwn : Type 0
ReplayedRecordsAreOwn = (manifest : Kinds) (scan : LogScan) (records : List (Elem × Record))
    (log : List Logged) (x : Elem) →
    record_at (replay_records manifest scan records log) x
    ≡ received (lookup (is_at (nat_cmp x.array)) manifest) x (record_at records x)
    (listed x scan log)

-- In any log, the test of a place is that of the scan, and that of its receiver's worker by its own
-- list up to there.
abbrev pub TestsAreOwn : Type 0
TestsAreOwn = (manifest : Kinds) (scan : LogScan) (records : List (Elem × Record)) (before : ℕ)
    (earlier : List Logged) (l : Logged) (later : List Logged) →
    slice_index_or (replay_tests manifest scan records before (earlier ++ l ∷ later))
    (length earlier) true
    ≡ (scans manifest (scan_after scan earlier) (before + length earlier) l
    && fits_own manifest scan records earlier (message_of (scan_after scan earlier) l) l)

-- the record to which a catch-up list brings an element depends on the element's own deliveries
-- alone
abbrev pub CatchUpIsOwn : Type 0
CatchUpIsOwn = (manifest : Kinds) (records : List (Elem × Record)) (ds : List CatchUpEntry)
    (x : Elem) →
    record_at (redelivered_all manifest records ds) x ≡ caught_own manifest (record_at records x)
    (deliveries_to x ds)

-- so the test of a place of the list is that of its receiver's worker, by the receiver's own
-- deliveries up to there
abbrev pub CatchUpTestsAreOwn : Type 0
CatchUpTestsAreOwn = (manifest : Kinds) (records : List (Elem × Record))
    (earlier : List CatchUpEntry)
    (d : CatchUpEntry) →
    is_caught_up manifest (record_at (redelivered_all manifest records earlier) d.message.to) d
    ≡ is_caught_up manifest (caught_own manifest (record_at records d.message.to)
    (deliveries_to d.message.to earlier)) d

-- A reply that a client's window has in the end, as such a scan knows, has the words of the last
-- one to this request, or else those that it had.
abbrev pub RepliesAreLast : Type 0
RepliesAreLast = (w : World) (before : ℕ) (history : List Event) (client number : ℕ) → IsFit w →
    IsLegal w before history →
    reply_to (client_of (world w history) client) number
    ≡ reply_if (is_some (reply_to (client_of (world w history) client) number))
    (or_else (last_reply client number w history) (reply_to (client_of w client) number))
