-- What is seen of a hub, and what always holds of it.
use Rattle.std.specs.Prelude.{ℕ, ◌≤◌, Bool, List, [], ◌∷◌, length, if◌then◌else◌}
use Rattle.charmlet_model.specs.declared.event.Event.{Event}
use Rattle.charmlet_model.specs.declared.event.Event.TheVariants.{Accept, Deliver}
use Rattle.charmlet_model.specs.declared.names.MsgId.{MsgId}
use Rattle.charmlet_model.specs.declared.refusal.Refusal.{Refusal}
use Rattle.charmlet_model.specs.declared.refusal.Refusal.TheVariants as refusals
use Rattle.charmlet_model.specs.Core.{Core, is_processor}
use Rattle.charmlet_model.specs.Run.{StoreView}
use Rattle.charmlet_stock.specs.declared.by_kind.ByKind.{ByKind}
use Rattle.charmlet_stock.specs.declared.pile.Tally.{Tally}
use Rattle.charmlet_leases.specs.Passes.Passes.{AreCurrent, LentPasses}
use Rattle.charmlet_leases.specs.Seats.Seats.{HaveAll, Seats, lending_refusal}
use Rattle.charmlet_sequencer.specs.Sequencer.{SequencerShown, store_of}

-- the ids of the messages that these events deliver, in order
abbrev pub deliveries_in : List Event → List MsgId
deliveries_in [] = []
deliveries_in (Accept client number to entry words ∷ events) = deliveries_in events
deliveries_in (Deliver id ∷ events) = id ∷ deliveries_in events

-- The core, but for whether a checkpoint runs, and that beside it; the census of its stock, the
-- disk, and the tables of seats and of passes.
pub record HubShown (D : Type 0) : Type 0 where
  pub core : Core
  pub busy : Bool
  pub census : ByKind Tally
  pub disk : D
  pub seats : Seats
  pub passes : LentPasses

-- the store, while a checkpoint runs or none does
abbrev pub while_busy : Bool → StoreView → StoreView
while_busy busy store = record store { core = record store.core { busy = busy } }

module _ {D : Type 0} where
  -- a sequencer with these authorities, while a checkpoint runs or none does
  abbrev pub shown_by : SequencerShown D → Bool → Seats → LentPasses → HubShown D
  shown_by sequencer busy seats passes = record {
    core = sequencer.core;
    busy = busy;
    census = sequencer.census;
    disk = sequencer.disk;
    seats = seats;
    passes = passes;
  }

  -- the hub without its authorities
  abbrev pub sequencer_in : HubShown D → SequencerShown D
  sequencer_in hub = record { core = hub.core; census = hub.census; disk = hub.disk }

  -- the hub as a core and the blanks of its stock
  abbrev pub store_in : HubShown D → StoreView
  store_in hub = while_busy hub.busy (store_of (sequencer_in hub))

  -- the hub without the room in its own list
  abbrev pub roomless : HubShown D → HubShown D
  roomless hub = record hub {
    seats = record hub.seats { own = record hub.seats.own { room = 0 } };
  }

  -- The seats' lists and the hub's own are woven into the deliveries of the history, all passes are
  -- current, and the hub's own list has room for each assigned delivery.
  pub record IsHub (hub : HubShown D) : Type 0 where
    pub seats : HaveAll hub.seats (deliveries_in hub.core.history)
    pub passes : AreCurrent hub.passes hub.core
    pub room : length hub.core.assigned ≤ hub.seats.own.room

  -- why a processor's seat isn't lent
  abbrev pub seat_refusal : HubShown D → ℕ → Refusal
  seat_refusal hub processor = if is_processor hub.core processor
      then lending_refusal processor hub.seats.out else refusals.BadPes
