-- What a step leaves of a processor that it isn't about.
use Rattle.std.specs.Prelude.{◌≡◌, ℕ, Some}
use Rattle.charmlet_model.specs.declared.names.Elem.{Elem}
use Rattle.charmlet_model.specs.declared.names.MsgId.{MsgId}
use Rattle.charmlet_model.specs.declared.message.Message.{Message}
use Rattle.charmlet_model.specs.World.{record_of}
use Rattle.charmlet_model.specs.Core.{Core, assigned_to, pending_message, place_of, present}
use Rattle.charmlet_model.specs.Shelves.{if_here}

-- The processor's assigned message and the record of its receiver stay, and so does what its shelf
-- shows.
pub record Leaves (processor : ℕ) (core next : Core) : Type 0 where
  pub assigned : assigned_to next processor ≡ assigned_to core processor
  pub pending : (id : MsgId) (m : Message) → assigned_to core processor ≡ Some id →
      pending_message core id ≡ Some m → pending_message next id ≡ Some m
  pub receiver : (id : MsgId) (m : Message) → assigned_to core processor ≡ Some id →
      pending_message core id ≡ Some m →
      record_of (present next) m.to ≡ record_of (present core) m.to
  pub manifest : (present next).manifest ≡ (present core).manifest
  pub processors : next.processors ≡ core.processors
  pub before : next.before ≡ core.before
  pub seen : (x : Elem) → if_here (place_of next x) processor (record_of (present next) x)
      ≡ if_here (place_of core x) processor (record_of (present core) x)
