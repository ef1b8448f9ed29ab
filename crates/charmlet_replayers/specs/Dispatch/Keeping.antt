-- That no object is lost while a stock dispatches blanks to replayers.
use Rattle.std.specs.Prelude.{◌≡◌, ◌+◌, List, length}
use Rattle.std.specs.List.{All, sum_by}
use Rattle.charmlet_model.specs.declared.kind.Kind.{Kind}
use Rattle.charmlet_model.specs.Core.{Blanks}
use Rattle.charmlet_chare.specs.declared.chare.Chare.{Ghosts}
use Rattle.charmlet_stock.specs.declared.stock.Stock.{Stock}
use Rattle.charmlet_stock.specs.Stock.{blanks_in, keeping_of, supplied_to, tally_in}
use Rattle.charmlet_shard.specs.RestoredShard.{IsHeld}
use Rattle.charmlet_replayers.specs.declared.replayer.replayer.Replayer.{Replayer}

-- all that was supplied to the replayer is there, and none of its shelves is in use
abbrev pub IsHeldReplayer : {C : Type 0} {G : Ghosts C} → Replayer C G → Type 0
IsHeldReplayer replayer = IsHeld replayer.restored

-- the objects that were supplied to all of these replayers
abbrev pub supplied_by : {C : Type 0} {G : Ghosts C} → List (Replayer C G) → Blanks
supplied_by replayers kind = sum_by (λ replayer. supplied_to replayer.restored.stock kind) replayers

-- the stock is as it was, but for its blanks
abbrev pub IsDrawnFrom : {C : Type 0} {G : Ghosts C} → Stock C G → Stock C G → Type 0
IsDrawnFrom old new = (kind : Kind) → tally_in new kind
    ≡ record (tally_in old kind) { in_stock = blanks_in new kind }

-- Each replayer has all that was supplied to it, and what went out of the stock was supplied to
-- one.
pub record KeepsAll {C : Type 0} {G : Ghosts C} (old_stock new_stock : Stock C G)
    (olds news : List (Replayer C G)) : Type 0 where
  pub count : length news ≡ length olds
  pub held : All IsHeldReplayer news
  pub total : (kind : Kind) → supplied_by news kind + blanks_in new_stock kind
      ≡ supplied_by olds kind + blanks_in old_stock kind
  pub drawn : IsDrawnFrom old_stock new_stock
  pub keeping : keeping_of new_stock ≡ keeping_of old_stock
