-- Replayers that can become one.
use Rattle.std.specs.Prelude.{◌≡◌, ℕ, ◌+◌, ◌<◌, ◌%◌, List, length, slice_get, Some, sum_by}
use Rattle.charmlet_model.specs.declared.kind.Kind.{Kind}
use Rattle.charmlet_model.specs.declared.names.Elem.{Elem}
use Rattle.charmlet_model.specs.declared.state.Record.{Record}
use Rattle.charmlet_model.specs.Core.{home}
use Rattle.charmlet_chare.specs.declared.chare.Chare.{Ghosts}
use Rattle.charmlet_shelf.specs.Shelf.{View}
use Rattle.charmlet_stock.specs.declared.stock.Stock.{Stock}
use Rattle.charmlet_stock.specs.Stock.{blanks_in, supplied_to, tally_in}
use Rattle.charmlet_store.specs.Store.{AreEmpty}
use Rattle.charmlet_replay.specs.RestoredShard.{IsHeld}
use Rattle.charmlet_replayers.specs.Replayer.Workers.{AreParts}
use Rattle.charmlet_replayers.specs.declared.replayer.replayer.Replayer.{Replayer}

-- of so many replayers the one that has the element: that of its home
abbrev pub worker_at_home : ℕ → ℕ → Elem → ℕ
worker_at_home processors workers x = home x processors % workers

-- how many blanks of a kind the replayers have
abbrev pub blanks_of_replayers : {C : Type 0} {G : Ghosts C} → List (Replayer C G) → Kind → ℕ
blanks_of_replayers {C} {G} replayers kind =
    sum_by (λ (replayer : Replayer C G). blanks_in replayer.restored.stock kind) replayers

-- how many objects of a kind they drew
abbrev pub drawn_by_replayers : {C : Type 0} {G : Ghosts C} → List (Replayer C G) → Kind → ℕ
drawn_by_replayers {C} {G} replayers kind =
    sum_by (λ (replayer : Replayer C G). supplied_to replayer.restored.stock kind) replayers

-- Each replayer has its part of the records, and all objects that it drew from the stock; what
-- isn't in the stock, they drew; and there are empty shelves for all processors.
pub record IsJoinable {C : Type 0} {G : Ghosts C} (processors : ℕ)
    (records : List (Elem × Record)) (replayers : List (Replayer C G)) (shelves : List View)
    (stock : Stock C G) : Type 0 where
  pub some : 0 < length replayers
  pub parts : AreParts (worker_at_home processors (length replayers)) records replayers
  pub on : (v : ℕ) (replayer : Replayer C G) → slice_get replayers v ≡ Some replayer →
      replayer.restored.processors ≡ processors
  pub held : (v : ℕ) (replayer : Replayer C G) → slice_get replayers v ≡ Some replayer →
      IsHeld replayer.restored
  pub empty : AreEmpty processors shelves
  pub shared : (kind : Kind) → supplied_to stock kind ≡ drawn_by_replayers replayers kind
      + blanks_in stock kind + (tally_in stock kind).retired
