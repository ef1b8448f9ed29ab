-- How what is under way on a shelf ends.
use Rattle.std.specs.Prelude.{◌≡◌, ℕ, ◌==◌, ◌&&◌, Bool, List, [], ◌∷◌, ◌++◌, length}
use Rattle.charmlet_model.specs.Core.{Done as IsDone, Finish, Release}
use Rattle.charmlet_model.specs.Run.{Goes}
use Rattle.charmlet_shelf.specs.Shelf.{View, settled}
use Rattle.charmlet_shelf.specs.declared.phase.Phase.{Phase}
use Rattle.charmlet_shelf.specs.declared.phase.Phase.TheVariants.{Idle, Assigned, Done}
use Rattle.charmlet_hub.specs.Hub.{HubShown, store_in}

module _ {D : Type 0} where
  -- on the shelf of a processor in this phase a delivery that was made is finished, and its id
  -- comes last in the hub's own list; one that is only assigned is released
  abbrev pub SettlesIn : Phase → HubShown D → ℕ → HubShown D → Type 0
  SettlesIn Idle hub processor next = next ≡ hub
  SettlesIn (Assigned due) hub processor next =
      Goes (store_in hub) (Release processor) IsDone (store_in next) × (next.seats ≡ hub.seats)
  SettlesIn (Done done) hub processor next =
      Goes (store_in hub) (Finish processor) IsDone (store_in next)
      × (next.seats.own.items ≡ hub.seats.own.items ++ done.due.message.id ∷ [])
      × (next.seats ≡ record hub.seats { own = next.seats.own })

  abbrev pub Settles : HubShown D → View → HubShown D → Type 0
  Settles hub shelf next = SettlesIn shelf.phase hub shelf.number next

  -- on one shelf after another
  abbrev pub SettleAll : HubShown D → List View → HubShown D → Type 0
  SettleAll hub [] last = last ≡ hub
  SettleAll hub (shelf ∷ shelves) last = (next : HubShown D) × Settles hub shelf next
      × SettleAll next shelves last

  -- so many seats and passes are all that are out
  abbrev pub are_all_in : HubShown D → ℕ → ℕ → Bool
  are_all_in hub seats passes = (seats == length hub.seats.out) && (passes == length hub.passes.out)

-- the shelf once what was under way has ended
abbrev pub ended : View → View
ended shelf = record (settled shelf) { phase = Idle }
