-- A delivery that is under way.
use Rattle.std.specs.Prelude.{◌≡◌, ℕ, true, is_some, Option, Some, None, Result, Ok, Err, if◌then◌else◌}
use Rattle.charmlet_model.specs.declared.kind_version.KindVersion.{KindVersion}
use Rattle.charmlet_model.specs.declared.names.MsgId.{MsgId}
use Rattle.charmlet_model.specs.declared.reaction.Reaction.{Reaction}
use Rattle.charmlet_model.specs.declared.refusal.Refusal.{Refusal}
use Rattle.charmlet_model.specs.World.{version_of_array, record_of}
use Rattle.charmlet_model.specs.Core.{Core, present}
use Rattle.charmlet_model.specs.Run.{StoreView, IsDelivered, IsNotDelivered}
use Rattle.charmlet_chare.specs.declared.output.Output.{Output}
use Rattle.charmlet_chare.specs.Output.{output_of}
use Rattle.charmlet_history.specs.Kept.{assigned_message}
use Rattle.charmlet_shelf.specs.Due.{Due, reaction_in}
use Rattle.charmlet_shelf.specs.declared.phase.Phase.{Phase}
use Rattle.charmlet_shelf.specs.declared.phase.Phase.TheVariants.{Idle, Assigned, Done}

-- the core has assigned the delivery's message to the processor; its receiver is of this kind
-- version, has this record in the world, and reacts
pub record IsUnderWay (core : Core) (processor : ℕ) (due : Due) : Type 0 where
  pub message : assigned_message core processor ≡ Some due.message
  pub kind_version : version_of_array (present core) due.message.to.array ≡ Some due.kind_version
  pub receiver : record_of (present core) due.message.to ≡ due.receiver
  pub reacts : is_some (reaction_in due) ≡ true

-- the delivery that is under way on a shelf, if one is
abbrev pub due_in : Phase → Option Due
due_in Idle = None
due_in (Assigned due) = Some due
due_in (Done done) = Some done.due

-- the kind version of the blank from which the assigned message is to construct its receiver, if it
-- is
abbrev pub blank_in : Phase → Option KindVersion
blank_in (Assigned due) = if is_some due.receiver.state then None else Some due.kind_version
blank_in _ = None

-- the receiver has reacted, and this is what it sent and replied
abbrev pub HasMade : Phase → Output → Type 0
HasMade (Done done) output = (r : Reaction) × (reaction_in done.due ≡ Some r)
    × (output ≡ output_of r)
HasMade _ output = ⊥

-- how a delivery ends
abbrev pub Ends : {T : Type 0} → StoreView → ℕ → MsgId → Result T Refusal → StoreView → Type 0
Ends store processor id (Ok x) next = IsDelivered store processor id next
Ends store processor id (Err refusal) next = IsNotDelivered store processor id refusal next
