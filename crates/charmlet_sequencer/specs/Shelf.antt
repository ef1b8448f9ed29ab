-- A shelf whose receiver's output was taken out of it.
use Rattle.std.specs.Prelude.{◌≡◌, Bool, true, false, is_some, length, Option, Some, None}
use Rattle.charmlet_model.specs.declared.names.MsgId.{MsgId}
use Rattle.charmlet_chare.specs.declared.output.Output.{Output}
use Rattle.charmlet_model.specs.declared.reaction.Reaction.{Reaction}
use Rattle.charmlet_shelf.specs.Due.{Due, reaction_in, record_after}
use Rattle.charmlet_shelf.specs.declared.phase.Phase.{Phase}
use Rattle.charmlet_shelf.specs.declared.phase.Phase.TheVariants.{Idle, Assigned, Done}
use Rattle.charmlet_delivery.specs.UnderWay.{HasMade}
use Rattle.charmlet_sequencer.specs.declared.processor_state.SentBy.{SentBy}

-- An assigned message can be reacted to. Once its receiver has reacted, this is what it sent and
-- replied.
abbrev pub HasOutput : Phase → Option Output → Type 0
HasOutput Idle output = Unit {0}
HasOutput (Assigned due) output = is_some (reaction_in due) ≡ true
HasOutput (Done done) output = (made : Output) × (output ≡ Some made) × HasMade (Done done) made

-- the assigned message's receiver has reacted, and its output was taken
abbrev pub entered : Phase → Phase
entered (Assigned due) = Done (record { due = due; output = None })
entered phase = phase

-- the receiver has reacted, and the delivery isn't settled yet
abbrev pub is_done : Phase → Bool
is_done (Done done) = true
is_done _ = false

-- the id of the delivery that the receiver has made, and that isn't settled yet
abbrev pub delivery_in : Phase → Option MsgId
delivery_in (Done done) = Some done.due.message.id
delivery_in _ = None

-- what the receiver sent if it reacts so
abbrev pub sent_if : Due → Option Reaction → Option SentBy
sent_if due None = None
sent_if due (Some reaction) = Some (record {
  elem = due.message.to;
  last = (record_after due).sent;
  count = length reaction.sends;
})

-- the messages that the receiver sent by the delivery that it has made, and that isn't settled yet
abbrev pub sent_in : Phase → Option SentBy
sent_in (Done done) = sent_if done.due (reaction_in done.due)
sent_in _ = None
