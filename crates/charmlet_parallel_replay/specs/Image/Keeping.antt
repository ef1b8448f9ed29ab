-- That no object is lost while a stock gives blanks to one replayer.
use Rattle.std.specs.Prelude.{◌≡◌, ◌+◌}
use Rattle.charmlet_model.specs.declared.kind.Kind.{Kind}
use Rattle.charmlet_chare.specs.declared.chare.Chare.{Ghosts}
use Rattle.charmlet_stock.specs.declared.stock.Stock.{Stock}
use Rattle.charmlet_stock.specs.Stock.{blanks_in, keeping_of, supplied_to}
use Rattle.charmlet_replay.specs.RestoredShard.{IsHeld}
use Rattle.charmlet_replay.specs.restored_shard.RestoredShard.{RestoredShard}
use Rattle.charmlet_replayers.specs.Dispatch.Keeping.{IsDrawnFrom}

-- The replayer has all that was supplied to it, and what went out of the stock was supplied to it.
pub record KeepsOne {C : Type 0} {G : Ghosts C} (old_stock new_stock : Stock C G)
    (old new : RestoredShard C G) : Type 0 where
  pub held : IsHeld new
  pub on : new.processors ≡ old.processors
  pub total : (kind : Kind) → supplied_to new.stock kind + blanks_in new_stock kind
      ≡ supplied_to old.stock kind + blanks_in old_stock kind
  pub drawn : IsDrawnFrom old_stock new_stock
  pub keeping : keeping_of new_stock ≡ keeping_of old_stock
