use Rattle.charmlet_locks.specs.GhostAuth.Naming.{table_of}
use Rattle.charmlet_probe.proofs.hubs.live_on_hub.Given as goal

-- the authorities that were just made
abbrev pub ghosts-live_as-B-AuthorityName : goal.ghosts-live_as-B-AuthorityName
ghosts-live_as-B-AuthorityName g a = record { table = table_of a.authorities.parts }

-- and the store that just began
abbrev pub ghosts-live_as-B-RuntimeName : goal.ghosts-live_as-B-RuntimeName
ghosts-live_as-B-RuntimeName g a = record {
  seats = table_of a.authorities.seats;
  passes = table_of a.authorities.passes;
  checkpoints = table_of a.authorities.checkpoints;
  opening = a.store.opening;
  before = a.store.before;
  processors = a.store.processors;
  generation = a.store.generation;
  honest = ⊥;
}

-- and the authority of its sightings
abbrev pub ghosts-live_as-B-WatchedName : goal.ghosts-live_as-B-WatchedName
ghosts-live_as-B-WatchedName g a = record { sightings = table_of a.authorities.sightings }
