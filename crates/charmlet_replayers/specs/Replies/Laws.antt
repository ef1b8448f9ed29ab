-- The laws of replies that replayers make again.
use Rattle.std.specs.Prelude.{◌≡◌, ℕ, ◌<◌, List, length, flat_map, slice_get, Some, None}
use Rattle.std.specs.List.{AllByRecursion}
use Rattle.charmlet_model.specs.declared.client.ClientRow.{ClientRow}
use Rattle.charmlet_model.specs.declared.event.Event.{Event}
use Rattle.charmlet_model.specs.declared.names.Elem.{Elem}
use Rattle.charmlet_model.specs.declared.logged.Logged.{Logged}
use Rattle.charmlet_model.specs.Fit.{IsFit}
use Rattle.charmlet_model.specs.World.{IsEvent, IsLegal, World, world}
use Rattle.charmlet_record.specs.declared.positioned.Positioned.{Positioned}
use Rattle.charmlet_image.specs.Positioned.{items_of}
use Rattle.charmlet_recovery.specs.Bases.{events_of}
use Rattle.charmlet_recovery.specs.Faults.{event_tests, first_failure}
use Rattle.charmlet_recovery.specs.Replays.{IsBeginning, LogScan, scan_after}
use Rattle.charmlet_log_scan.specs.Partition.Parts.{is_of_worker, part, tasks}
use Rattle.charmlet_replayers.specs.declared.replies.reply.Reply.{Reply}
use Rattle.charmlet_replayers.specs.Replies.Filled.{AreButForReplies, filled}
use Rattle.charmlet_replayers.specs.Replies.Replies.{AreRepliesOf, replies_of}

-- Where no event is at fault, the replies of all replayers, each of which does the tasks of its own
-- elements, are those of the events: one for each request that an event delivers, with its words.
abbrev pub RepliesAreOfEvents : Type 0
RepliesAreOfEvents = (worker : Elem → ℕ) (w : World) (before : ℕ) (scan : LogScan)
    (log : List (Positioned Logged)) (lists : List (List Reply)) → IsFit w →
    AllByRecursion IsEvent (events_of (items_of log)) → IsBeginning w scan →
    first_failure (event_tests w before (items_of log)) ≡ None →
    ((x : Elem) → worker x < length lists) →
    ((v : ℕ) (rs : List Reply) → slice_get lists v ≡ Some rs →
    rs ≡ replies_of w.manifest (part (is_of_worker worker v) w.records)
    (tasks (is_of_worker worker v) scan log)) →
    AreRepliesOf w (events_of (items_of log)) (flat_map (λ rs. rs) lists)

-- A scan over the log that begins with the rows of the world keeps the words of all replies that
-- were there before, and ends with the world's rows but for the words of the log's own replies.
abbrev pub ScanKeepsOthers : Type 0
ScanKeepsOthers = (w : World) (before : ℕ) (scan : LogScan) (log : List Logged) → IsFit w →
    AllByRecursion IsEvent (events_of log) → IsBeginning w scan →
    first_failure (event_tests w before log) ≡ None →
    AreButForReplies w (events_of log)
    (scan_after (record scan { clients = w.clients }) log).clients

-- Such rows are those of the world once they are filled with the replies of the events, in whatever
-- order these come.
abbrev pub FilledAreWorlds : Type 0
FilledAreWorlds = (w : World) (before : ℕ) (history : List Event) (rows : List (ℕ × ClientRow))
    (rs : List Reply) → IsFit w → IsLegal w before history → AreButForReplies w history rows →
    AreRepliesOf w history rs → filled rows rs ≡ (world w history).clients
