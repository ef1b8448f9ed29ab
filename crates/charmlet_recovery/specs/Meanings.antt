-- What an image and the log after it come to.
use Rattle.std.specs.Prelude.{ℕ, ◌+◌, List, length, Option, Some, None}
use Rattle.charmlet_model.specs.declared.logged.Logged.{Logged}
use Rattle.charmlet_model.specs.World.{World}
use Rattle.charmlet_image.specs.Images.{Image}
use Rattle.charmlet_recovery.specs.Bases.{recovered_world}
use Rattle.charmlet_recovery.specs.Faults.{Place, first_fault}

-- the first fault, or else a world and how many events led to it
pub data Meaning : Type 0 where
  Faulty : Place → Meaning
  Whole : World → ℕ → Meaning

-- the fault, if there is one, or else the world and the count
abbrev pub unless_faulty : Option Place → World → ℕ → Meaning
unless_faulty None w count = Whole w count
unless_faulty (Some place) w count = Faulty place

-- what an image and its log come to; `before` events came before the image's world
abbrev pub meaning : Image → ℕ → List Logged → Meaning
meaning image before log = unless_faulty (first_fault image before log) (recovered_world image log)
    (before + length log)
