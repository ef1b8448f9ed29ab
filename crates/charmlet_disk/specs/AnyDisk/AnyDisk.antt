-- What any disk of the program shows.
use Rattle.std.specs.Prelude.{◌≡◌, ⊤, ℕ, Bool, [], length, Option, None, Some}
use Rattle.std.specs.declared.io.Error.{Error}
use Rattle.charmlet_model.specs.declared.half.Half.{Half}
use Rattle.charmlet_disk.specs.File.{File, CrashBytes, clean}
use Rattle.charmlet_disk.specs.FileDisk as folders
use Rattle.charmlet_disk.specs.Fuse as fuses
use Rattle.charmlet_disk.specs.MemDisk as memories
use Rattle.charmlet_disk.specs.Memory.{LeftSince}
use Rattle.charmlet_disk.specs.declared.any_disk.AnyDisk.{AnyDisk}
use Rattle.charmlet_disk.specs.declared.any_disk.AnyDisk.TheVariants.{Folder, Memory, Failing}

-- it is honest in memory, and over files it never is
abbrev pub is_honest : AnyDisk → Type 0
is_honest (Folder disk) = ⊥
is_honest (Memory disk) = Unit {0}
is_honest (Failing fuse) = Unit {0}

-- it is over a folder's files
abbrev pub IsFolder : AnyDisk → Type 0
IsFolder (Folder disk) = ⊤
IsFolder (Memory disk) = ⊥
IsFolder (Failing fuse) = ⊥

-- its two files, if it is in memory
abbrev pub files_of : AnyDisk → Half → File
files_of (Folder disk) = λ _. clean []
files_of (Memory disk) = memories.files disk
files_of (Failing fuse) = memories.files (fuses.inside fuse)

-- the moment, as the number of calls on record
abbrev pub moment_of : AnyDisk → ℕ
moment_of (Folder disk) = 0
moment_of (Memory disk) = length (memories.calls_of disk)
moment_of (Failing fuse) = length (memories.calls_of (fuses.inside fuse))

-- what a crash at some moment from that one on might have left
abbrev pub left_since : AnyDisk → ℕ → CrashBytes → Type 0
left_since (Folder disk) = λ _ _. ⊥
left_since (Memory disk) = LeftSince (memories.calls_of disk)
left_since (Failing fuse) = LeftSince (memories.calls_of (fuses.inside fuse))

-- how many calls failed, at most 2^64 - 1
abbrev pub faults_of : AnyDisk → ℕ
faults_of (Folder disk) = folders.faults_of disk
faults_of (Memory disk) = memories.faults_of disk
faults_of (Failing fuse) =
    fuses.faults_of_both (memories.faults_of (fuses.inside fuse)) (fuses.refusals fuse)

-- why the first one was, of a folder's files
abbrev pub cause_of : AnyDisk → Option Error
cause_of (Folder disk) = folders.cause_of disk
cause_of (Memory disk) = None
cause_of (Failing fuse) = None

-- how many of them it didn't fail by itself
abbrev pub faults_beneath : AnyDisk → ℕ
faults_beneath (Folder disk) = folders.faults_of disk
faults_beneath (Memory disk) = memories.faults_of disk
faults_beneath (Failing fuse) = memories.faults_of (fuses.inside fuse)

-- how many writes and syncs it still passes, if it fails by itself after them
abbrev pub calls_left : AnyDisk → Option ℕ
calls_left (Folder disk) = None
calls_left (Memory disk) = None
calls_left (Failing fuse) = Some (fuses.calls_left fuse)

-- after a write or a sync it is the same sort of disk, and one that fails by itself passes one less
abbrev pub Burns : (old new : AnyDisk) → Bool → Type 0
Burns (Folder old) (Folder new) ok = ⊤
Burns (Memory old) (Memory new) ok = ⊤
Burns (Failing old) (Failing new) ok = fuses.Burns memories.faults_of old new ok
Burns _ _ ok = ⊥

-- after a read or a length it is the same sort of disk, and one that fails by itself passes as many
abbrev pub PassesFree : (old new : AnyDisk) → Type 0
PassesFree (Folder old) (Folder new) = ⊤
PassesFree (Memory old) (Memory new) = new ≡ old
PassesFree (Failing old) (Failing new) = fuses.PassesFree old new
PassesFree _ _ = ⊥
