-- Bytes with others at some of their places.
use Rattle.std.specs.Prelude.{◌≡◌, ℕ, ◌<◌, true, false, List, length, slice_index}
use Rattle.charmlet_disk.specs.File.{covers}

-- new is old, except that each place of the ranges has another byte
pub record IsOverlaid (ranges : List (ℕ × ℕ)) (byte_at : ℕ → ℕ) (old new : List ℕ) : Type 0 where
  pub long : length new ≡ length old
  pub inside : (k : ℕ) → k < length old → covers ranges k ≡ true → slice_index new k ≡ byte_at k
  pub outside : (k : ℕ) → covers ranges k ≡ false → slice_index new k ≡ slice_index old k
