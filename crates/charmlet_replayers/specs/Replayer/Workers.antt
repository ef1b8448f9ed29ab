-- Several replayers: what each of them is dispatched, and where the first of them stopped.
use Rattle.std.specs.Prelude.{◌≡◌, ℕ, ◌<◌, zero, suc, Bool, true, false, List, [], ◌∷◌, length, Option, Some, None, Result, Ok, Err, slice_get}
use Rattle.std.specs.List.Sorted.{IsStrictlySortedBy}
use Rattle.std.specs.Map.{keys_of}
use Rattle.charmlet_model.specs.declared.names.Elem.{Elem}
use Rattle.charmlet_model.specs.declared.logged.CatchUpEntry.{CatchUpEntry}
use Rattle.charmlet_model.specs.declared.state.Record.{Record}
use Rattle.charmlet_model.specs.Names.{elem_cmp}
use Rattle.charmlet_record.specs.declared.positioned.Positioned.{Positioned}
use Rattle.charmlet_record.specs.declared.reader.Fault.{Fault}
use Rattle.charmlet_record.specs.declared.reader.ReadError.{ReadError}
use Rattle.charmlet_record.specs.declared.reader.ReadError.TheVariants.{Damaged, Memory}
use Rattle.charmlet_record.specs.Reading.{Kinds}
use Rattle.charmlet_chare.specs.declared.chare.Chare.{Ghosts}
use Rattle.charmlet_log_scan.specs.Partition.Parts.{Falls, catch_ups, is_of_worker, part}
use Rattle.charmlet_replayers.specs.Replayer.Replayers.{IsKnownBy}
use Rattle.charmlet_shard.specs.RestoredShard.{IsHeld, IsRestored}
use Rattle.charmlet_stock.specs.Stock.{supplied_to}
use Rattle.charmlet_replayers.specs.declared.replayer.replayer.Replayer.{Replayer}

-- why a replayer stopped, by what its call answered
abbrev pub stop_from : {T : Type 0} → Result T ReadError → Option ReadError
stop_from (Ok x) = None
stop_from (Err why) = Some why

-- how many bytes are left where a replayer stopped at a fault
abbrev pub left_of : Option ReadError → Option ℕ
left_of None = None
left_of (Some Memory) = None
left_of (Some (Damaged fault)) = Some fault.bytes_left

-- and of a fault
abbrev pub left_in : Option Fault → Option ℕ
left_in None = None
left_in (Some fault) = Some fault.bytes_left

-- memory was refused
abbrev pub is_refused : Option ReadError → Bool
is_refused (Some Memory) = true
is_refused _ = false

-- where the replayer with this number stopped
abbrev pub left_at : {C : Type 0} {G : Ghosts C} → List (Replayer C G) → ℕ → Option ℕ
left_at [] i = None
left_at (replayer ∷ replayers) zero = left_of replayer.stopped
left_at (replayer ∷ replayers) (suc i) = left_at replayers i

-- no replayer was refused memory
abbrev pub IsSpared : {C : Type 0} {G : Ghosts C} → Replayer C G → Type 0
IsSpared replayer = is_refused replayer.stopped ≡ false

-- Each replayer is dispatched its part of the records and the deliveries to its elements.
pub record AreDispatched {C : Type 0} {G : Ghosts C} (worker : Elem → ℕ) (manifest : Kinds)
    (records : List (Elem × Record)) (ds : List (Positioned CatchUpEntry))
    (replayers : List (Replayer C G)) : Type 0 where
  pub falls : Falls ds
  pub rising : IsStrictlySortedBy elem_cmp (keys_of records)
  pub within : (x : Elem) → worker x < length replayers
  pub known : (w : ℕ) (replayer : Replayer C G) → slice_get replayers w ≡ Some replayer →
      IsKnownBy manifest replayer.restored replayer.deliveries.items
      (part (is_of_worker worker w) records)
  pub deliveries : (w : ℕ) (replayer : Replayer C G) → slice_get replayers w ≡ Some replayer →
      replayer.deliveries.items ≡ catch_ups (is_of_worker worker w) ds

-- all that was supplied to the replayer is there, and none of its shelves is in use
pub record IsWhole {C : Type 0} {G : Ghosts C} (old new : Replayer C G) : Type 0 where
  pub held : IsHeld new.restored
  pub processors : new.restored.processors ≡ old.restored.processors
  pub supplied : supplied_to new.restored.stock ≡ supplied_to old.restored.stock

-- the replayer has the tasks that it had
abbrev pub HasSameTasks : {C : Type 0} {G : Ghosts C} → Replayer C G → Replayer C G → Type 0
HasSameTasks old new = new.tasks ≡ old.tasks

-- each replayer has its part of the records
abbrev pub AreParts : {C : Type 0} {G : Ghosts C} → (Elem → ℕ) → List (Elem × Record) →
    List (Replayer C G) → Type 0
AreParts {C} {G} worker records replayers = (w : ℕ) (replayer : Replayer C G) →
    slice_get replayers w ≡ Some replayer →
    IsRestored (part (is_of_worker worker w) records) replayer.restored
