-- A delivery that is under way on a shelf.
use Rattle.std.specs.Prelude.{◌≡◌, true, false, is_some, Option}
use Rattle.charmlet_model.specs.declared.state.State.{State}
use Rattle.charmlet_chare.specs.declared.chare.Chare.{Ghosts}
use Rattle.charmlet_chare.specs.declared.output.Output.{Output}
use Rattle.charmlet_history.specs.declared.history.History.{History}
use Rattle.charmlet_history.specs.Kept.{core_in}
use Rattle.charmlet_shelf.specs.Due.{Due}
use Rattle.charmlet_shelf.specs.Lending.{IsCarriedOut}
use Rattle.charmlet_shelf.specs.Shelf.{View}
use Rattle.charmlet_shelf.specs.declared.phase.Phase.{Phase}
use Rattle.charmlet_shelf.specs.declared.phase.Phase.TheVariants.{Idle}
use Rattle.charmlet_delivery.specs.UnderWay.{IsUnderWay}
use Rattle.charmlet_delivery.specs.Workplace.{IsConsistentWorkplace, ShowsPart, Workplace}

-- the shelf has this delivery in this phase; its objects show the world before it
pub record IsDelivering (history : History) (shelf : View) (due : Due)
    (phase : Phase) : Type 0 where
  pub phase_is : shelf.phase ≡ phase
  pub under_way : IsUnderWay (core_in history) shelf.number due
  pub part : ShowsPart history shelf

-- the receiver of the delivery, which was there, has reacted and was counted on the shelf, where
-- before that no delivery was under way
pub record IsEntered {C : Type 0} {G : Ghosts C} (look : C → State) (workplace : Workplace C G)
    (due : Due) (output : Output) (destroyed : Option C) (after : View) : Type 0 where
  pub consistent : IsConsistentWorkplace workplace
  pub running : (core_in workplace.history).halted ≡ false
  pub under_way : IsUnderWay (core_in workplace.history) workplace.shelf.number due
  pub idle : workplace.shelf.phase ≡ Idle
  pub there : is_some due.receiver.state ≡ true
  pub done : IsCarriedOut look workplace.shelf.records due output destroyed after.records
  pub others : after ≡ record workplace.shelf { records = after.records }
