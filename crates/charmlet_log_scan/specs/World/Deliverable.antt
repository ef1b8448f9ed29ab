-- A delivery that can be made in what is kept.
use Rattle.std.specs.Prelude.{◌+◌, ◌≤◌, Bool, List, [], ◌++◌, length}
use Rattle.charmlet_model.specs.declared.message.Message.{Message}
use Rattle.charmlet_model.specs.declared.message.Outgoing.{Outgoing}
use Rattle.charmlet_model.specs.Fit.{AreDistinct}
use Rattle.charmlet_model.specs.Reaction.{greatest}
use Rattle.charmlet_model.specs.World.{numbered, without}
use Rattle.charmlet_chare.specs.declared.output.Output.{Output}
use Rattle.charmlet_world.specs.Changed.{IsAwaited, delivered_in, with_entry}
use Rattle.charmlet_world.specs.Seen.{Seen, element_at}

-- the client that asked waits for the reply, the receiver's counts have room, what it sends is
-- within the limits, and ids stay distinct
pub record CanBeDelivered (k : Seen) (sends : List Outgoing) (m : Message) : Type 0 where
  pub client : IsAwaited k.clients m.id.origin m.id.number
  pub few : length sends ≤ 16
  pub sent : (element_at k.elements m.to).sent + 16 ≤ greatest
  pub received : (element_at k.elements m.to).received + 1 ≤ greatest
  pub distinct : AreDistinct (without m.id k.pending
      ++ numbered m.to (element_at k.elements m.to).sent sends)

-- what a receiver that sends these and is destroyed or not makes of a message, but for its reply
abbrev pub output_without_reply : List Outgoing → Bool → Output
output_without_reply sends is_destroyed = record {
  sends = sends;
  reply = [];
  is_destroyed = is_destroyed;
}

-- what is kept once the message is delivered, by which its receiver sends these and is destroyed or
-- not
abbrev pub delivered_to : Seen → Message → List Outgoing → Bool → Seen
delivered_to k m sends is_destroyed = delivered_in
    (record k { elements = with_entry k.elements m.to }) m (output_without_reply sends is_destroyed)
