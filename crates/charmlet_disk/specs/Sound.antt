-- What holds of a file, whatever was called.
use Rattle.std.specs.Prelude.{◌≡◌, ◌≤◌, []}
use Rattle.charmlet_disk.specs.File.{File, MayBeLeft, clean}
use Rattle.charmlet_disk.specs.Crash.{last_end}

-- what a read gives may be left, the ranges end within the greatest length, and without any nothing
-- was written
pub record IsSound (file : File) : Type 0 where
  pub left : MayBeLeft file file.now
  pub inside : last_end file.ranges ≤ file.greatest
  pub untouched : file.ranges ≡ [] → file ≡ clean file.now
