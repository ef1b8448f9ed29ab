-- What a disk of files shows.
use Rattle.std.specs.Prelude.{ℕ, Option}
use Rattle.std.specs.declared.io.Error.{Error}
use Rattle.charmlet_disk.specs.declared.file_disk.FileDisk.{FileDisk}

-- its failures so far
abbrev pub faults_of : FileDisk → ℕ
faults_of disk = disk.faults.count

-- why the first one was
abbrev pub cause_of : FileDisk → Option Error
cause_of disk = disk.faults.first
