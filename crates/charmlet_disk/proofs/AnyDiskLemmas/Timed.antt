-- How the time of any disk goes on: as that of the disk in memory does.
use Rattle.std.proofs.Common.{◌≡◌, length, sym, subst}
use Rattle.charmlet_disk.specs.declared.mem_disk.MemDisk.{MemDisk}
use Rattle.charmlet_disk.specs.declared.fuse_disk.FuseDisk.{FuseDisk}
use Rattle.charmlet_disk.specs.Disk.{Elapses}
use Rattle.charmlet_disk.specs.File.{MayLeave}
use Rattle.charmlet_disk.specs.Fuse.{inside}
use Rattle.charmlet_disk.specs.MemDisk.{calls_of, files}
use Rattle.charmlet_disk.specs.Memory.{LeftSince}
use Rattle.charmlet_disk.specs.declared.any_disk.AnyDisk.{AnyDisk}
use Rattle.charmlet_disk.specs.declared.any_disk.AnyDisk.TheVariants.{Memory, Failing}
use Rattle.charmlet_disk.specs.AnyDisk.AnyDisk.{left_since, moment_of}

-- time goes on from any disk to one in memory
abbrev pub GoesOn : AnyDisk → MemDisk → Type 0
GoesOn old new = Elapses (moment_of old) (length (calls_of new)) (left_since old) (LeftSince (calls_of new)) (MayLeave (files new))

pub in_memory : (old : AnyDisk) (before new : MemDisk) → old ≡ Memory before → Elapses (length (calls_of before)) (length (calls_of new)) (LeftSince (calls_of before)) (LeftSince (calls_of new)) (MayLeave (files new)) → GoesOn old new
in_memory old before new is time = subst (λ disk. GoesOn disk new) (sym is) time

pub in_failing : (old : AnyDisk) (before : FuseDisk MemDisk) (new : MemDisk) → old ≡ Failing before
    → Elapses (length (calls_of (inside before))) (length (calls_of new)) (LeftSince (calls_of (inside before))) (LeftSince (calls_of new)) (MayLeave (files new)) → GoesOn old new
in_failing old before new is time = subst (λ disk. GoesOn disk new) (sym is) time
