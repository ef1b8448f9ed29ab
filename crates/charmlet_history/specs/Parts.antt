-- A world in parts.
use Rattle.charmlet_model.specs.World.{World}
use Rattle.charmlet_history.specs.declared.world.WorldParts.{WorldParts}

-- the world of these arrays, records, pending messages and clients' rows
abbrev pub world_of : WorldParts → World
world_of parts = record {
  manifest = parts.manifest;
  records = parts.records.items;
  pending = parts.pending.items;
  clients = parts.clients.items;
}
