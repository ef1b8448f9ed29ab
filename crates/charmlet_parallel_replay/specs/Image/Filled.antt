-- Replayers who have their elements back, and the blanks for their deliveries.
use Rattle.std.specs.Prelude.{◌≡◌, ℕ, ◌+◌, ◌≤◌, List, [], Some, length, slice_get}
use Rattle.std.specs.List.{All, AllByRecursion}
use Rattle.charmlet_model.specs.declared.kind.Kind.{Kind}
use Rattle.charmlet_model.specs.declared.names.Elem.{Elem}
use Rattle.charmlet_model.specs.declared.logged.CatchUpEntry.{CatchUpEntry}
use Rattle.charmlet_model.specs.declared.state.Record.{Record}
use Rattle.charmlet_model.specs.Core.{Blanks}
use Rattle.charmlet_record.specs.declared.positioned.Positioned.{Positioned}
use Rattle.charmlet_record.specs.Reading.{Kinds}
use Rattle.charmlet_record.specs.Written.{IsCaughtUp}
use Rattle.charmlet_image.specs.Positioned.{items_of}
use Rattle.charmlet_recovery.specs.Blanks.{wanted_by_catch_up, wanted_by_records}
use Rattle.charmlet_chare.specs.declared.chare.Chare.{Ghosts}
use Rattle.charmlet_stock.specs.Stock.{blanks_in, supplied_to}
use Rattle.charmlet_log_scan.specs.Partition.Parts.{catch_ups, is_of_worker, part}
use Rattle.charmlet_replay.specs.RestoredShard.{IsHeld, IsRestored}
use Rattle.charmlet_replayers.specs.Dispatch.Sharing.{worker_of}
use Rattle.charmlet_replayers.specs.Shares.Laws.{together}
use Rattle.charmlet_replayers.specs.declared.replayer.replayer.Replayer.{Replayer}

-- A replayer on so many processors that has no element and no object yet, and nothing to do.
pub record IsEmptyReplayer {C : Type 0} {G : Ghosts C} (processors : ℕ) (replayer : Replayer C G)
    : Type 0 where
  pub held : IsHeld replayer.restored
  pub on : replayer.restored.processors ≡ processors
  pub nothing : IsRestored [] replayer.restored
  pub bare : (kind : Kind) → supplied_to replayer.restored.stock kind ≡ 0
  pub spare : (kind : Kind) → blanks_in replayer.restored.stock kind ≡ 0
  pub deliveries : replayer.deliveries.items ≡ []
  pub tasks : replayer.tasks.items ≡ []

-- the same of one that may have deliveries
pub record IsToFill {C : Type 0} {G : Ghosts C} (processors : ℕ) (replayer : Replayer C G) : Type 0
  where
    pub held : IsHeld replayer.restored
    pub on : replayer.restored.processors ≡ processors
    pub nothing : IsRestored [] replayer.restored
    pub spare : (kind : Kind) → blanks_in replayer.restored.stock kind ≡ 0
    pub tasks : replayer.tasks.items ≡ []

-- each replayer has the deliveries of a list that are to its elements
abbrev pub AreTheirs : {C : Type 0} {G : Ghosts C} → (Elem → ℕ) → List (Positioned CatchUpEntry) →
    List (Replayer C G) → Type 0
AreTheirs {C} {G} worker ds replayers = (v : ℕ) (replayer : Replayer C G) → slice_get replayers v
    ≡ Some replayer →
    replayer.deliveries.items ≡ catch_ups (is_of_worker worker v) ds

-- the blanks that a replayer needs, by what is written alone: for its records, and for its
-- deliveries
abbrev pub wanted_by_worker : (Elem → ℕ) → Kinds → List (Elem × Record) →
    List (Positioned CatchUpEntry) → Kind → ℕ → ℕ
wanted_by_worker worker manifest records ds kind v =
    wanted_by_records manifest kind (part (is_of_worker worker v) records)
    + wanted_by_catch_up manifest kind (part (is_of_worker worker v) records)
    (items_of (catch_ups (is_of_worker worker v) ds))

-- there are blanks for all that the first so many replayers need
abbrev pub HasBlanksForAll : (Elem → ℕ) → ℕ → Kinds → List (Elem × Record) →
    List (Positioned CatchUpEntry) → Blanks → Type 0
HasBlanksForAll worker workers manifest records ds given = (kind : Kind) →
    together workers (wanted_by_worker worker manifest records ds kind) ≤ given kind

-- The replayers have nothing yet but the deliveries of a list to their elements, and there are
-- blanks for all that they need.
pub record CanBeFilled {C : Type 0} {G : Ghosts C} (processors : ℕ) (manifest : Kinds)
    (records : List (Elem × Record)) (ds : List (Positioned CatchUpEntry)) (given : Blanks)
    (replayers : List (Replayer C G)) : Type 0 where
  pub to_fill : All (IsToFill processors) replayers
  pub typed : AllByRecursion (IsCaughtUp manifest) (items_of ds)
  pub theirs : AreTheirs (worker_of processors (length replayers)) ds replayers
  pub enough : HasBlanksForAll (worker_of processors (length replayers)) (length replayers) manifest
      records
      ds given

-- The replayer has its part of the records, the deliveries to its elements, and a blank for each
-- construction among these that isn't skipped.
pub record IsFilled {C : Type 0} {G : Ghosts C} (worker : Elem → ℕ) (manifest : Kinds)
    (records : List (Elem × Record)) (ds : List (Positioned CatchUpEntry)) (processors v : ℕ)
    (replayer : Replayer C G) : Type 0 where
  pub on : replayer.restored.processors ≡ processors
  pub restored : IsRestored (part (is_of_worker worker v) records) replayer.restored
  pub deliveries : replayer.deliveries.items ≡ catch_ups (is_of_worker worker v) ds
  pub blanks : (kind : Kind) → blanks_in replayer.restored.stock kind
      ≡ wanted_by_catch_up manifest kind (part (is_of_worker worker v) records)
      (items_of (catch_ups (is_of_worker worker v) ds))
  pub tasks : replayer.tasks.items ≡ []

-- All replayers are, and what they need went out of the stock.
pub record AreFilled {C : Type 0} {G : Ghosts C} (worker : Elem → ℕ) (manifest : Kinds)
    (records : List (Elem × Record)) (ds : List (Positioned CatchUpEntry)) (processors : ℕ)
    (given left : Blanks) (replayers : List (Replayer C G)) : Type 0 where
  pub each : (v : ℕ) (replayer : Replayer C G) → slice_get replayers v ≡ Some replayer →
      IsFilled worker manifest records ds processors v replayer
  pub taken : (kind : Kind) → left kind
      + together (length replayers) (wanted_by_worker worker manifest records ds kind) ≡ given kind
