-- Records that stay good whatever a replayer makes again, also behind another replayer's fault.
use Rattle.std.specs.Prelude.{◌≤◌, Bool, List}
use Rattle.std.specs.List.{AllByRecursion}
use Rattle.charmlet_model.specs.declared.names.Elem.{Elem}
use Rattle.charmlet_model.specs.declared.kind.Kind.{Kind}
use Rattle.charmlet_model.specs.declared.message.Message.{Message}
use Rattle.charmlet_model.specs.declared.logged.CatchUpEntry.{CatchUpEntry}
use Rattle.charmlet_model.specs.declared.state.Record.{Record}
use Rattle.charmlet_model.specs.Core.{Blanks}
use Rattle.charmlet_model.specs.Packed.{IsWord}
use Rattle.charmlet_model.specs.declared.logged.Logged.{Logged}
use Rattle.charmlet_record.specs.declared.positioned.Positioned.{Positioned}
use Rattle.charmlet_record.specs.Reading.{Kinds}
use Rattle.charmlet_record.specs.Written.{IsLogged}
use Rattle.charmlet_image.specs.Positioned.{items_of}
use Rattle.charmlet_recovery.specs.Replays.{LogScan}
use Rattle.charmlet_recovery.specs.Blanks.{wanted_by_catch_up}
use Rattle.charmlet_log_scan.specs.declared.partition.task.Task.{Task}
use Rattle.charmlet_log_scan.specs.Partition.Parts.{part, tasks}
use Rattle.charmlet_shard.specs.RestoredShard.{AreGood, HasBlanksAgain, StayGood}
use Rattle.charmlet_replayers.specs.Replayer.Tasks.{StayGoodTo}

-- the words of a message are words of 64 bits
abbrev pub HasWords : Message → Type 0
HasWords m = AllByRecursion IsWord m.words

-- a part of good records is good
abbrev pub PartsAreGood : Type 0
PartsAreGood = (manifest : Kinds) (records : List (Elem × Record)) (mine : Elem → Bool) →
    AreGood manifest records → AreGood manifest (part mine records)

-- good records stay good up to each delivery that is reached
abbrev pub CatchUpsStayGood : Type 0
CatchUpsStayGood = (manifest : Kinds) (records : List (Elem × Record)) (ds : List CatchUpEntry) →
    AreGood manifest records → AllByRecursion (λ d. HasWords d.message) ds →
    StayGood manifest records ds

-- and to each task
abbrev pub TasksStayGood : Type 0
TasksStayGood = (manifest : Kinds) (records : List (Elem × Record)) (ts : List Task) →
    AreGood manifest records → AllByRecursion (λ t. HasWords t.message) ts →
    StayGoodTo manifest records ts

-- A replayer that has a blank for each construction of its deliveries that isn't skipped, by what
-- is written alone, has one for each that it makes, also behind another replayer's fault.
abbrev pub ReplayersHaveBlanks : Type 0
ReplayersHaveBlanks = (manifest : Kinds) (records : List (Elem × Record)) (ds : List CatchUpEntry)
    (given : Blanks) →
    ((kind : Kind) → wanted_by_catch_up manifest kind records ds ≤ given kind) →
    HasBlanksAgain given manifest records ds

-- The messages of a replayer's tasks have such words, where the log has its format and the messages
-- that are pending before it have.
abbrev pub TasksHaveWords : Type 0
TasksHaveWords = (kinds : Kinds) (mine : Elem → Bool) (scan : LogScan)
    (log : List (Positioned Logged)) → AllByRecursion HasWords scan.pending →
    AllByRecursion (IsLogged kinds) (items_of log) →
    AllByRecursion (λ t. HasWords t.message) (tasks mine scan log)
