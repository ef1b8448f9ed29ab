-- Engines that come after one another.
use Rattle.charmlet_disk.specs.declared.disk.Disk.{Ghosts}
use Rattle.charmlet_disk.specs.Disk.{LeavesOnly}
use Rattle.charmlet_engine.specs.Engine.{EngineShown, core_of}
use Rattle.charmlet_engine.specs.Outcomes.{Onward, is_lawful_since}

-- The history goes on; on an honest disk each crash from the first engine to the second is lawful;
-- and the disk is as honest as before.
pub record Advances {D : Type 0} (G : Ghosts D) (old new : EngineShown D) : Type 0 where
  pub onward : Onward (core_of old) (core_of new)
  pub any_moment : G.honest old.disk → LeavesOnly G.moment G.since old.disk new.disk
      (is_lawful_since (core_of old) (core_of new))
  pub honest : (G.honest old.disk → G.honest new.disk) × (G.honest new.disk → G.honest old.disk)
