-- A write that a crash cuts short.
use Rattle.std.specs.Prelude.{◌≡◌, ℕ, ◌+◌, ◌≤◌, max, List, length, take, drop}
use Rattle.charmlet_model.specs.declared.half.Half.{Half}
use Rattle.charmlet_model.specs.Half.{other}
use Rattle.charmlet_disk.specs.File.{File, CrashBytes}

-- new is old, except for any bytes in a range and past the old end, up to the end of the range
pub record Torn (at n : ℕ) (old new : List ℕ) : Type 0 where
  pub front : take at new ≡ take at old
  pub later : drop (at + n) new ≡ drop (at + n) old
  pub no_shorter : length old ≤ length new
  pub no_longer : length new ≤ max (length old) (at + n)

-- one half is torn in a range, and the other is as it was
pub record TearsHalf (files : Half → File) (half : Half) (at n : ℕ)
    (outcome : CrashBytes) : Type 0 where
  pub torn : Torn at n (files half).now (outcome half)
  pub kept : outcome (other half) ≡ (files (other half)).now
