-- What a fit world says of its changes: that each can be made.
use Rattle.std.specs.Prelude.{◌≡◌, ℕ, true, List, Some, None}
use Rattle.charmlet_model.specs.declared.names.Elem.{Elem}
use Rattle.charmlet_model.specs.declared.names.Origin.TheVariants.{Client}
use Rattle.charmlet_model.specs.declared.names.MsgId.{MsgId}
use Rattle.charmlet_model.specs.declared.message.Message.{Message}
use Rattle.charmlet_model.specs.declared.event.Event.TheVariants.{Accept, Deliver}
use Rattle.charmlet_model.specs.Fit.{IsFit}
use Rattle.charmlet_model.specs.World.{World, IsRequest, can, message_among}
use Rattle.charmlet_chare.specs.declared.output.Output.{Output}
use Rattle.charmlet_world.specs.Changed.{IsOutputOf, Suits}
use Rattle.charmlet_world.specs.Seen.{Held, Seen, IsSlot, Shows, seen}

-- the id of a request that can be accepted is no pending message's
abbrev pub RequestsAreNew : Type 0
RequestsAreNew = (k : Seen) (w : World) (client number : ℕ) (to : Elem) (entry : ℕ)
    (words : List ℕ) → Shows k w → IsFit w → IsRequest client number to entry words →
    can w (Accept client number to entry words) ≡ true →
    message_among (record { origin = Client client; number = number }) k.pending ≡ None

-- what the receiver of a message that can be delivered makes of it can be committed
abbrev pub DeliveriesSuit : Type 0
DeliveriesSuit = (h : Held) (w : World) (id : MsgId) (m : Message) (slot : ℕ) (output : Output) →
    Shows (seen h) w → IsFit w → can w (Deliver id) ≡ true →
    message_among id h.pending ≡ Some m → IsSlot h.rows slot m.to → IsOutputOf w id output →
    Suits h slot output m
