-- The tasks of a replayer: what has to be known of them, and what becomes of it.
use Rattle.std.specs.Prelude.{◌≡◌, ℕ, ◌+◌, ◌≤◌, ◌<◌, ◌&&◌, true, List, [], ◌∷◌, ◌++◌, length, Option, Some, None, slice_get}
use Rattle.std.specs.List.Sorted.{IsStrictlySortedBy}
use Rattle.std.specs.Map.{keys_of}
use Rattle.charmlet_model.specs.declared.kind.Kind.{Kind}
use Rattle.charmlet_model.specs.declared.names.Elem.{Elem}
use Rattle.charmlet_model.specs.declared.logged.Effect.TheVariants.{Constructed}
use Rattle.charmlet_model.specs.declared.logged.Logged.{Logged}
use Rattle.charmlet_model.specs.declared.reaction.Reaction.{Reaction}
use Rattle.charmlet_model.specs.declared.state.Record.{Record}
use Rattle.charmlet_model.specs.Core.{Blanks}
use Rattle.charmlet_model.specs.Names.{elem_cmp}
use Rattle.charmlet_model.specs.World.{World}
use Rattle.charmlet_record.specs.declared.positioned.Positioned.{Positioned}
use Rattle.charmlet_record.specs.declared.reader.Fault.{Fault}
use Rattle.charmlet_record.specs.declared.reader.ReadError.TheVariants.{Damaged}
use Rattle.charmlet_record.specs.Reading.{Kinds}
use Rattle.charmlet_image.specs.Positioned.{items_of}
use Rattle.charmlet_recovery.specs.Blanks.{array_is, one_if}
use Rattle.charmlet_recovery.specs.Faults.{first_failure, same_effect}
use Rattle.charmlet_recovery.specs.Replays.{IsBeginning, LogScan}
use Rattle.charmlet_chare.specs.declared.chare.Chare.{Ghosts}
use Rattle.charmlet_stock.specs.Stock.{blanks_in, supplied_to}
use Rattle.charmlet_log_scan.specs.declared.partition.task.Task.{Task}
use Rattle.charmlet_log_scan.specs.Partition.Parts.{Done, Falls, Stopped, is_of_worker, part, scan_tests, worked}
use Rattle.charmlet_log_scan.specs.Partition.Parts as parts
use Rattle.charmlet_replayers.specs.Replies.Replies.{replies_of}
use Rattle.charmlet_shard.specs.RestoredShard.{AreGood, IsHeld, IsRestored}
use Rattle.charmlet_replayers.specs.declared.replayer.replayer.Replayer.{Replayer}
use Rattle.charmlet_shard.specs.declared.restored_shard.RestoredShard.{RestoredShard}

-- the words are what the reaction replies
abbrev pub IsReplyTo : Option Reaction → List ℕ → Type 0
IsReplyTo reaction words = (o : Reaction) × (reaction ≡ Some o) × (words ≡ o.reply)

-- there is a blank, where it is written that the task constructs its receiver
abbrev pub HasBlankToDo : Blanks → Kinds → Task → Type 0
HasBlankToDo blanks manifest t = (kind : Kind) → t.effect ≡ Constructed →
    array_is manifest kind t.message.to.array ≡ true → 1 ≤ blanks kind

-- the blanks of a kind that a task takes, by what is written of it
abbrev pub taken_by : Kinds → Task → Kind → ℕ
taken_by manifest t kind = one_if (same_effect t.effect Constructed
    && array_is manifest kind t.message.to.array)

-- the blanks of a kind that tasks take, by what is written of them
abbrev pub taken_by_all : Kinds → List Task → Kind → ℕ
taken_by_all manifest [] kind = 0
taken_by_all manifest (t ∷ ts) kind = taken_by manifest t kind + taken_by_all manifest ts kind

-- the records stay good up to each task that is reached
abbrev pub StayGoodTo : Kinds → List (Elem × Record) → List Task → Type 0
StayGoodTo manifest records ts =
    (sooner later : List Task) (es : List (Elem × Record)) → ts ≡ sooner ++ later →
    worked manifest records sooner ≡ Done es → AreGood manifest es

-- the elements with these records came back, which stay good, and there are blanks for all that is
-- written to be constructed
pub record CanDo {C : Type 0} {G : Ghosts C} (manifest : Kinds) (r : RestoredShard C G)
    (ts : List Task) (records : List (Elem × Record)) : Type 0 where
  pub restored : IsRestored records r
  pub good : StayGoodTo manifest records ts
  pub blanks : (kind : Kind) → taken_by_all manifest ts kind ≤ blanks_in r.stock kind

-- all tasks were done, and the elements have the records that they lead to
abbrev pub AreDone : {C : Type 0} {G : Ghosts C} → Kinds → List (Elem × Record) → List Task →
    RestoredShard C G → Type 0
AreDone manifest records ts r = (es : List (Elem × Record))
    × (worked manifest records ts ≡ Done es) × IsRestored es r

-- the tasks of the replayer can be done
pub record IsReadyToDo {C : Type 0} {G : Ghosts C} (manifest : Kinds) (replayer : Replayer C G)
    : Type 0 where
  pub held : IsHeld replayer.restored
  pub records : List (Elem × Record)
  pub can : CanDo manifest replayer.restored replayer.tasks.items records

-- the replayer took the blanks of its tasks
abbrev pub HasTaken : {C : Type 0} {G : Ghosts C} → Kinds → Replayer C G → Replayer C G → Type 0
HasTaken manifest old new = (kind : Kind) →
    blanks_in new.restored.stock kind + taken_by_all manifest old.tasks.items kind
    ≡ blanks_in old.restored.stock kind

-- nothing is left for the replayer to do
abbrev pub HasNoTask : {C : Type 0} {G : Ghosts C} → Replayer C G → Type 0
HasNoTask replayer = replayer.tasks.items ≡ []

-- They were done, up to the first one that does something else than is written, unless memory was
-- refused. What they reply is kept after the replies that there were.
pub record IsDoneReplayer {C : Type 0} {G : Ghosts C} (manifest : Kinds)
    (old new : Replayer C G) : Type 0 where
  pub held : IsHeld new.restored
  pub done : new.stopped ≡ None → (records : List (Elem × Record)) →
      CanDo manifest old.restored old.tasks.items records →
      AreDone manifest records old.tasks.items new.restored
  pub replies : new.stopped ≡ None → (records : List (Elem × Record)) →
      CanDo manifest old.restored old.tasks.items records →
      new.replies.items ≡ old.replies.items ++ replies_of manifest records old.tasks.items
  pub taken : new.stopped ≡ None → HasTaken manifest old new
  pub fault : (fault : Fault) → new.stopped ≡ Some (Damaged fault) →
      (records : List (Elem × Record)) → CanDo manifest old.restored old.tasks.items records →
      worked manifest records old.tasks.items ≡ Stopped fault.bytes_left
  pub idle : HasNoTask new
  pub processors : new.restored.processors ≡ old.restored.processors
  pub supplied : supplied_to new.restored.stock ≡ supplied_to old.restored.stock

-- Each replayer is dispatched its part of the world's records, and the tasks that are its own, by a
-- scan over the log, which begins as the world is and finds no fault.
pub record AreDispatchedTasks {C : Type 0} {G : Ghosts C} (worker : Elem → ℕ) (w : World)
    (before : ℕ) (scan : LogScan) (log : List (Positioned Logged))
    (replayers : List (Replayer C G)) : Type 0 where
  pub falls : Falls log
  pub rising : IsStrictlySortedBy elem_cmp (keys_of w.records)
  pub begin : IsBeginning w scan
  pub passing : first_failure (scan_tests w.manifest scan before (items_of log)) ≡ None
  pub within : (x : Elem) → worker x < length replayers
  pub can : (v : ℕ) (replayer : Replayer C G) → slice_get replayers v ≡ Some replayer →
      CanDo w.manifest replayer.restored replayer.tasks.items
      (part (is_of_worker worker v) w.records)
  pub tasks : (v : ℕ) (replayer : Replayer C G) → slice_get replayers v ≡ Some replayer →
      replayer.tasks.items ≡ parts.tasks (is_of_worker worker v) scan log

-- each replayer has what its tasks reply to clients
abbrev pub HaveReplies : {C : Type 0} {G : Ghosts C} → (Elem → ℕ) → World → LogScan →
    List (Positioned Logged) → List (Replayer C G) → Type 0
HaveReplies {C} {G} worker w scan log replayers =
    (v : ℕ) (replayer : Replayer C G) → slice_get replayers v ≡ Some replayer →
    replayer.replies.items
    ≡ replies_of w.manifest (part (is_of_worker worker v) w.records)
    (parts.tasks (is_of_worker worker v) scan log)

-- each replayer has what its tasks reply to clients after the replies that it had
abbrev pub HaveMoreReplies : {C : Type 0} {G : Ghosts C} → (Elem → ℕ) → World → LogScan →
    List (Positioned Logged) → List (Replayer C G) → List (Replayer C G) → Type 0
HaveMoreReplies {C} {G} worker w scan log olds news = (v : ℕ) (old new : Replayer C G) →
    slice_get olds v ≡ Some old → slice_get news v ≡ Some new →
    new.replies.items ≡ old.replies.items
    ++ replies_of w.manifest (part (is_of_worker worker v) w.records)
    (parts.tasks (is_of_worker worker v) scan log)
