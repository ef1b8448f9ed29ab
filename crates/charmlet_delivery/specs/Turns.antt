-- What a part of a delivery makes of its workplace.
use Rattle.std.specs.Prelude.{◌≡◌, ◌==◌, ℕ, false}
use Rattle.charmlet_chare.specs.declared.chare.Chare.{Ghosts}
use Rattle.charmlet_history.specs.Kept.{core_in}
use Rattle.charmlet_stock.specs.Stock.{keeping_of, supplied_to}
use Rattle.charmlet_delivery.specs.Leaves.{Leaves}
use Rattle.charmlet_delivery.specs.Workplace.{IsConsistentWorkplace, IsFreeIfIdle, Workplace, held_in}

-- The workplace is consistent again, and free if idle, if it was so before. Of the other processors
-- all stays. No object is lost or made, and of the same kinds the retired ones are kept.
pub record Turns {C : Type 0} {G : Ghosts C} (old new : Workplace C G) : Type 0 where
  pub consistent : IsConsistentWorkplace new
  pub free : IsFreeIfIdle old → IsFreeIfIdle new
  pub leaves : (processor : ℕ) → (old.shelf.number == processor) ≡ false →
      Leaves processor (core_in old.history) (core_in new.history)
  pub number : new.shelf.number ≡ old.shelf.number
  pub processors : (core_in new.history).processors ≡ (core_in old.history).processors
  pub held : held_in new.shelf new.stock ≡ held_in old.shelf old.stock
  pub supplied : supplied_to new.stock ≡ supplied_to old.stock
  pub keeping : keeping_of new.stock ≡ keeping_of old.stock
