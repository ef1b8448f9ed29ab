-- What a disk in memory shows.
use Rattle.std.specs.Prelude.{◌≡◌, ℕ, List, [], ◌∷◌, ◌++◌}
use Rattle.charmlet_model.specs.declared.half.Half.{Half}
use Rattle.charmlet_disk.specs.declared.mem_disk.MemDisk.{MemDisk}
use Rattle.charmlet_disk.specs.declared.mem_disk.call.Call.{Call}
use Rattle.charmlet_disk.specs.File.{File}
use Rattle.charmlet_disk.specs.Memory.{file_of, by_halves}

-- its two files
abbrev pub files : MemDisk → Half → File
files disk = by_halves (file_of disk.zero) (file_of disk.one)

-- the calls that it has on record, the oldest first
abbrev pub calls_of : MemDisk → List Call
calls_of disk = disk.calls.items

-- how many calls failed, at most 2^64 - 1
abbrev pub faults_of : MemDisk → ℕ
faults_of disk = disk.faults

-- one more call is on record
abbrev pub Records : MemDisk → MemDisk → Type 0
Records old new = (call : Call) × (calls_of new ≡ calls_of old ++ call ∷ [])

-- nothing was done
pub record Keeps (old new : MemDisk) : Type 0 where
  pub calls : calls_of new ≡ calls_of old
  pub files : (half : Half) → files new half ≡ files old half
