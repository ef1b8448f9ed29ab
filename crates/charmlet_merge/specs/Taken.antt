-- Shelves that are taken from a replayer.
use Rattle.std.specs.Prelude.{◌≡◌, ℕ, ◌%◌, ◌<◌, ◌==◌, List, get_or, if◌then◌else◌, length}
use Rattle.charmlet_shelf.specs.Shelf.{View}

-- of so many replayers this one's shelves are taken, and the others stay as they were
pub record HaveTaken (worker workers : ℕ) (old theirs new : List View) : Type 0 where
  pub count : length new ≡ length old
  pub each : (p : ℕ) (d : View) → p < length old →
      get_or new p d ≡ (if p % workers == worker then get_or theirs p d else get_or old p d)
