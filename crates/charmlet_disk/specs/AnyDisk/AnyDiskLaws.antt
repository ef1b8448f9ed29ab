-- Why any disk of the program is a disk, as lemmas.
use Rattle.std.proofs.Common.{ℕ, ◌≤◌}
use Rattle.charmlet_model.specs.declared.half.Half.{Half}
use Rattle.charmlet_disk.specs.File.{MayBeLeft, MayLeave, CrashBytes}
use Rattle.charmlet_disk.specs.Fuse.{inside}
use Rattle.charmlet_disk.specs.MemDiskLaws as memories
use Rattle.charmlet_disk.specs.declared.any_disk.AnyDisk.{AnyDisk}
use Rattle.charmlet_disk.specs.declared.any_disk.AnyDisk.TheVariants.{Folder, Memory, Failing}
use Rattle.charmlet_disk.specs.AnyDisk.AnyDisk.{files_of, is_honest, left_since, moment_of}

-- what a read gives is one of the outcomes
pub files_are_left : (disk : AnyDisk) → is_honest disk → (half : Half) →
    MayBeLeft (files_of disk half) (files_of disk half).now
files_are_left (Folder disk) honest half = absurd honest
files_are_left (Memory disk) honest half = memories.files_are_left disk half
files_are_left (Failing fuse) honest half = memories.files_are_left (inside fuse) half

-- this moment is one of those since an earlier one
pub counts_among : (disk : AnyDisk) (t : ℕ) (c : CrashBytes) → is_honest disk → t ≤ moment_of disk →
    MayLeave (files_of disk) c → left_since disk t c
counts_among (Folder disk) t c honest le left = absurd honest
counts_among (Memory disk) t c honest le left = memories.counts_among disk t c le left
counts_among (Failing fuse) t c honest le left = memories.counts_among (inside fuse) t c le left

-- since this moment there is no other
pub only_last : (disk : AnyDisk) (c : CrashBytes) → is_honest disk →
    left_since disk (moment_of disk) c →
    MayLeave (files_of disk) c
only_last (Folder disk) c honest left = absurd honest
only_last (Memory disk) c honest left = memories.only_last disk c left
only_last (Failing fuse) c honest left = memories.only_last (inside fuse) c left
