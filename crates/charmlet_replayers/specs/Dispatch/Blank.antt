-- The blank that a task is dispatched.
use Rattle.std.specs.Prelude.{◌≡◌, ℕ, ◌+◌, ◌==◌, ◌++◌, ◌∷◌, [], true, List, Option, Some, None, if◌then◌else◌, slice_get}
use Rattle.charmlet_model.specs.declared.kind.Kind.{Kind}
use Rattle.charmlet_model.specs.declared.names.Elem.{Elem}
use Rattle.charmlet_model.specs.declared.logged.Effect.TheVariants.{Constructed}
use Rattle.charmlet_chare.specs.declared.chare.Chare.{Ghosts}
use Rattle.charmlet_record.specs.Reading.{Kinds}
use Rattle.charmlet_recovery.specs.Blanks.{array_is}
use Rattle.charmlet_stock.specs.declared.stock.Stock.{Stock}
use Rattle.charmlet_stock.specs.Stock.{blanks_in}
use Rattle.charmlet_log_scan.specs.declared.partition.task.Task.{Task}
use Rattle.charmlet_log_scan.specs.Partition.Parts.{is_of_worker}
use Rattle.charmlet_log_scan.specs.Routing.Routed.{tasks_of}
use Rattle.charmlet_shard.specs.RestoredShard.{IsHeld}
use Rattle.charmlet_replayers.specs.Replayer.Tasks.{taken_by_all}
use Rattle.charmlet_replayers.specs.declared.replayer.replayer.Replayer.{Replayer}

-- The replayer has some more tasks, and the blanks that these take; else it is as it was.
pub record HasMore {C : Type 0} {G : Ghosts C} (manifest : Kinds) (more : List Task)
    (old new : Replayer C G) : Type 0 where
  pub tasks : new.tasks.items ≡ old.tasks.items ++ more
  pub blanks : (kind : Kind) → blanks_in new.restored.stock kind
      ≡ blanks_in old.restored.stock kind + taken_by_all manifest more kind
  pub rest : new.restored ≡ record old.restored { stock = new.restored.stock }
  pub replies : new.replies ≡ old.replies
  pub held : IsHeld old.restored → IsHeld new.restored

-- these blanks went out of the stock
abbrev pub HasGivenOut : {C : Type 0} {G : Ghosts C} → Kinds → List Task → Stock C G →
    Stock C G → Type 0
HasGivenOut manifest tasks old new = (kind : Kind) →
    blanks_in new kind + taken_by_all manifest tasks kind ≡ blanks_in old kind

-- it is written that the task constructs its receiver, and there is no blank for that
abbrev pub LacksBlank : {C : Type 0} {G : Ghosts C} → Kinds → Task → Stock C G → Type 0
LacksBlank manifest t stock = (kind : Kind) × (t.effect ≡ Constructed)
    × (array_is manifest kind t.message.to.array ≡ true) × (blanks_in stock kind ≡ 0)

-- one of the replayers has one more task, with its blank
abbrev pub GoesTo : {C : Type 0} {G : Ghosts C} → Kinds → ℕ → Task → List (Replayer C G) →
    List (Replayer C G) → Type 0
GoesTo {C} {G} manifest worker t olds news = (v : ℕ) (old new : Replayer C G) →
    slice_get olds v ≡ Some old → slice_get news v ≡ Some new →
    HasMore manifest (if worker == v then t ∷ [] else []) old new

-- the task as a list, if there is one
abbrev pub list_of : Option Task → List Task
list_of None = []
list_of (Some t) = t ∷ []

-- the replayer of its receiver has one more task, if there is one, with its blank
abbrev pub AreGivenTo : {C : Type 0} {G : Ghosts C} → Kinds → (Elem → ℕ) → Option Task →
    List (Replayer C G) → List (Replayer C G) → Type 0
AreGivenTo {C} {G} manifest worker task olds news = (v : ℕ) (old new : Replayer C G) →
    slice_get olds v ≡ Some old → slice_get news v ≡ Some new →
    HasMore manifest (tasks_of (is_of_worker worker v) task) old new

-- each replayer is as it was
abbrev pub AreSameReplayers : {C : Type 0} {G : Ghosts C} → List (Replayer C G) →
    List (Replayer C G) → Type 0
AreSameReplayers {C} {G} olds news = (v : ℕ) (old new : Replayer C G) → slice_get olds v
    ≡ Some old →
    slice_get news v ≡ Some new → new ≡ old
