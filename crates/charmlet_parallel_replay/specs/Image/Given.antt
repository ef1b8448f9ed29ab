-- Deliveries that are given to replayers.
use Rattle.std.specs.Prelude.{◌≡◌, ℕ, ◌==◌, List, [], ◌∷◌, ◌++◌, Some, if◌then◌else◌, length, slice_get}
use Rattle.std.specs.List.{All}
use Rattle.charmlet_model.specs.declared.kind.Kind.{Kind}
use Rattle.charmlet_model.specs.declared.names.Elem.{Elem}
use Rattle.charmlet_model.specs.declared.logged.CatchUpEntry.{CatchUpEntry}
use Rattle.charmlet_record.specs.declared.positioned.Positioned.{Positioned}
use Rattle.charmlet_chare.specs.declared.chare.Chare.{Ghosts}
use Rattle.charmlet_log_scan.specs.Partition.Parts.{catch_ups, is_of_worker}
use Rattle.charmlet_replayers.specs.declared.replayer.replayer.Replayer.{Replayer}
use Rattle.charmlet_replayers.specs.Dispatch.Keeping.{IsHeldReplayer, supplied_by}

-- the replayer has some more deliveries, and else is as it was
pub record HasMoreDeliveries {C : Type 0} {G : Ghosts C} (more : List (Positioned CatchUpEntry))
    (old new : Replayer C G) : Type 0 where
  pub deliveries : new.deliveries.items ≡ old.deliveries.items ++ more
  pub restored : new.restored ≡ old.restored
  pub tasks : new.tasks ≡ old.tasks

-- each replayer has the deliveries to its elements
abbrev pub HaveDeliveries : {C : Type 0} {G : Ghosts C} → (Elem → ℕ) →
    List (Positioned CatchUpEntry) →
    List (Replayer C G) → List (Replayer C G) → Type 0
HaveDeliveries {C} {G} worker ds olds news = (v : ℕ) (old new : Replayer C G) →
    slice_get olds v ≡ Some old → slice_get news v ≡ Some new →
    HasMoreDeliveries (catch_ups (is_of_worker worker v) ds) old new

-- each replayer has all that was supplied to it, and no more was
pub record KeepsSupply {C : Type 0} {G : Ghosts C} (olds news : List (Replayer C G)) : Type 0 where
  pub count : length news ≡ length olds
  pub held : All IsHeldReplayer news
  pub supplied : (kind : Kind) → supplied_by news kind ≡ supplied_by olds kind

-- one of the replayers has one delivery more
abbrev pub AreGivenOne : {C : Type 0} {G : Ghosts C} → ℕ → Positioned CatchUpEntry →
    List (Replayer C G) →
    List (Replayer C G) → Type 0
AreGivenOne {C} {G} worker p olds news = (v : ℕ) (old new : Replayer C G) →
    slice_get olds v ≡ Some old → slice_get news v ≡ Some new →
    HasMoreDeliveries (if worker == v then p ∷ [] else []) old new
