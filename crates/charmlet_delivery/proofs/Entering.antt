-- Deliveries to receivers that are there, which react where they are kept.
use Rattle.std.proofs.Common.{◌≡◌, ℕ, ◌+◌, cond, sym, ap, ◌∙◌, arith}
use Rattle.std.specs.Prelude.{Option}
use Rattle.charmlet_model.specs.declared.kind.Kind.{Kind}
use Rattle.charmlet_model.specs.declared.state.State.{State}
use Rattle.charmlet_model.specs.Shelves.{there_in}
use Rattle.charmlet_chare.specs.declared.chare.Chare.{Ghosts}
use Rattle.charmlet_chare.specs.declared.output.Output.{Output}
use Rattle.charmlet_shelf.specs.Count.{came_out, is_newcomer_of, objects_on}
use Rattle.charmlet_shelf.specs.Due.{Due, record_after}
use Rattle.charmlet_shelf.specs.Shelf.{View, with_record}
use Rattle.charmlet_shelf.specs.declared.phase.Phase.{Phase}
use Rattle.charmlet_shelf.specs.declared.phase.Phase.TheVariants.{Idle}
use Rattle.charmlet_delivery.specs.Delivering.{IsEntered}
use Rattle.charmlet_delivery.specs.Workplace.{Workplace}

and_none : (n : ℕ) → n + 0 ≡ n
and_none n = omega arith

-- where no delivery is under way each object is that of a record
idle_objects : (shelf : View) (kind : Kind) → shelf.phase ≡ Idle → objects_on shelf kind ≡ there_in shelf.records kind
idle_objects shelf kind idle = ap (λ (phase : Phase). there_in shelf.records kind + cond (is_newcomer_of kind phase) 1 0) idle ∙ and_none (there_in shelf.records kind)

-- an object that comes out of the records is one fewer on the shelf
pub objects_out : {C : Type 0} (state : C → State) (old after : View) (destroyed : Option C) (kind : Kind) → old.phase ≡ Idle → after ≡ record old { records = after.records } →
    there_in old.records kind ≡ there_in after.records kind + came_out state destroyed kind → objects_on old kind ≡ objects_on after kind + came_out state destroyed kind
objects_out state old after destroyed kind idle others count =
    idle_objects old kind idle ∙ count
    ∙ ap (λ n. n + came_out state destroyed kind) (sym (idle_objects after kind (ap (λ (v : View). v.phase) others ∙ idle)))

module _ {C : Type 0} {G : Ghosts C} (state : C → State) (old : Workplace C G) (due : Due) (output : Output) (destroyed : Option C) (after : View) (entered : IsEntered state old due output destroyed after) where
  pub came_off : (kind : Kind) → objects_on old.shelf kind ≡ objects_on after kind + came_out state destroyed kind
  came_off kind = objects_out state old.shelf after destroyed kind entered.idle entered.others (entered.done.count kind)

  -- the shelf is as if the delivery had been settled there
  pub settled_after : after ≡ record { number = old.shelf.number; records = with_record old.shelf.records due.message.to (record_after due); phase = Idle }
  settled_after = λ i. record {
    number = ap (λ (v : View). v.number) entered.others i;
    records = entered.done.records i;
    phase = (ap (λ (v : View). v.phase) entered.others ∙ entered.idle) i;
  }
