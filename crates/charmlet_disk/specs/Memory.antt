-- A file in memory, and what a record of calls makes of a file.
use Rattle.std.specs.Prelude.{◌≡◌, ◌++◌, ℕ, ◌≤◌, List, [], ◌∷◌, length, take}
use Rattle.charmlet_model.specs.declared.half.Half.{Half}
use Rattle.charmlet_model.specs.declared.half.Half.TheVariants.{Zero, One}
use Rattle.charmlet_model.specs.Half.{other}
use Rattle.charmlet_disk.specs.declared.mem_disk.mem_file.MemFile.{MemFile}
use Rattle.charmlet_disk.specs.declared.mem_disk.call.Call.{Call}
use Rattle.charmlet_disk.specs.declared.mem_disk.call.Call.TheVariants.{Write, Sync, Crash}
use Rattle.charmlet_disk.specs.File.{File, CrashBytes, MayLeave, wrote, clean}
use Rattle.charmlet_disk.specs.Crash.{left_by}

-- the file as a disk shows it
abbrev pub file_of : MemFile → File
file_of file = record {
  now = file.bytes.items;
  sure = file.sure.items;
  ranges = file.ranges.items;
  greatest = length file.bytes.items;
}

-- what a call makes of a half
abbrev pub after_call : Half → Call → File → File
after_call Zero (Write Zero at bytes) file = wrote at bytes.items file
after_call Zero (Write One at bytes) file = file
after_call One (Write Zero at bytes) file = file
after_call One (Write One at bytes) file = wrote at bytes.items file
after_call Zero (Sync Zero) file = clean file.now
after_call Zero (Sync One) file = file
after_call One (Sync Zero) file = file
after_call One (Sync One) file = clean file.now
after_call half (Crash choice) file = clean (left_by choice file)

-- a call is added to a record, and does to a half what it does
pub record Adds (half : Half) (old new : File) (calls calls_then : List Call) : Type 0 where
  pub call : Call
  pub pushed : calls_then ≡ calls ++ call ∷ []
  pub done : new ≡ after_call half call old
  pub apart : (file : File) → after_call (other half) call file ≡ file

-- what calls make of a half, the oldest first
abbrev pub replayed : Half → List Call → File → File
replayed half [] file = file
replayed half (call ∷ calls) file = replayed half calls (after_call half call file)

-- both halves of an empty disk after these calls
abbrev pub files_after : List Call → Half → File
files_after calls half = replayed half calls (clean [])

-- what a crash after some number of the calls might have left
abbrev pub LeftSince : List Call → ℕ → CrashBytes → Type 0
LeftSince calls t outcome = (k : ℕ) × (t ≤ k) × (k ≤ length calls)
    × MayLeave (files_after (take k calls)) outcome

-- one for each half
abbrev pub by_halves : {X : Type 0} → X → X → Half → X
by_halves zero one Zero = zero
by_halves zero one One = one
