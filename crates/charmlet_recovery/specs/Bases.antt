-- The world that an image gives, and the one to which the log after it leads.
use Rattle.std.specs.Prelude.{Bool, nat_le, List, [], ◌∷◌, if◌then◌else◌, Option, Some, None, option_and_then}
use Rattle.std.specs.Ordering.{nat_cmp}
use Rattle.std.specs.BTreeMap.{insert_entry, is_at}
use Rattle.std.specs.Map.{lookup}
use Rattle.charmlet_model.specs.declared.names.Elem.{Elem}
use Rattle.charmlet_model.specs.declared.message.Message.{Message}
use Rattle.charmlet_model.specs.declared.state.Record.{Record}
use Rattle.charmlet_model.specs.declared.event.Event.{Event}
use Rattle.charmlet_model.specs.declared.reaction.Reaction.{Reaction}
use Rattle.charmlet_model.specs.declared.logged.Logged.{Logged}
use Rattle.charmlet_model.specs.declared.logged.CatchUpEntry.{CatchUpEntry}
use Rattle.charmlet_model.specs.Names.{elem_cmp}
use Rattle.charmlet_model.specs.Reaction.{react}
use Rattle.charmlet_model.specs.World.{World, world, record_at, advanced}
use Rattle.charmlet_model.specs.Logging.{event_of}
use Rattle.charmlet_record.specs.Reading.{Kinds}
use Rattle.charmlet_image.specs.Images.{Image}

-- what the message makes of a receiver with this record
abbrev pub reaction : Kinds → Record → Message → Option Reaction
reaction manifest r m = option_and_then (λ kind. react kind m.to r.state m.entry m.words)
    (lookup (is_at (nat_cmp m.to.array)) manifest)

-- the records after x, with this record, has made the reaction, if there is one: its state and its
-- two counts change, and nothing else
abbrev pub records_after : List (Elem × Record) → Elem → Record → Option Reaction →
    List (Elem × Record)
records_after records x r None = records
records_after records x r (Some o) = insert_entry elem_cmp records x (advanced r o)

-- the receiver's record has the delivery already
abbrev pub is_skipped : Record → CatchUpEntry → Bool
is_skipped r d = nat_le d.received r.received

-- a delivery that the receiver's record already has is skipped, and any other one is made again
abbrev pub redelivered : Kinds → List (Elem × Record) → CatchUpEntry → List (Elem × Record)
redelivered manifest records d =
    if is_skipped (record_at records d.message.to) d then records
    else records_after records d.message.to (record_at records d.message.to)
    (reaction manifest (record_at records d.message.to) d.message)

-- the records after the deliveries of a catch-up list, in order
abbrev pub redelivered_all : Kinds → List (Elem × Record) → List CatchUpEntry → List (Elem × Record)
redelivered_all manifest records [] = records
redelivered_all manifest records (d ∷ ds) =
    redelivered_all manifest (redelivered manifest records d) ds

-- the world that an image gives: its catch-up list is applied to its records, and all else is as it
-- is written
abbrev pub base : Image → World
base image = record {
  manifest = image.manifest;
  records = redelivered_all image.manifest image.records image.caught_up;
  pending = image.pending;
  clients = image.clients;
}

-- the events of a log
abbrev pub events_of : List Logged → List Event
events_of [] = []
events_of (l ∷ log) = event_of l ∷ events_of log

-- the world after the events of the log
abbrev pub recovered_world : Image → List Logged → World
recovered_world image log = world (base image) (events_of log)
