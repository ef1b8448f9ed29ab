-- The present world and the plain one are one.
use Rattle.std.specs.Prelude.{◌≡◌}
use Rattle.charmlet_model.specs.Fit.{IsFit}
use Rattle.charmlet_model.specs.World.{World}
use Rattle.charmlet_world.specs.Seen.{Held, Shows, seen}

-- both are one fit world, and no delivery is under way
pub record IsPair (h : Held) (w : World) : Type 0 where
  pub shows : Shows (seen h) w
  pub fit : IsFit w
  pub none : h.promised ≡ 0
