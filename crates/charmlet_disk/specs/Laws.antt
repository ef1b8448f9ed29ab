-- What holds of every disk.
use Rattle.std.specs.Prelude.{◌≡◌}
use Rattle.charmlet_model.specs.declared.half.Half.{Half}
use Rattle.charmlet_disk.specs.File.{File, CrashBytes, MayLeave}
use Rattle.charmlet_disk.specs.Disk.{IsSettled}

-- a crash of a settled disk leaves of each half what a read gives, and nothing else
abbrev pub SettledDisksLeaveWhatIsRead : Type 0
SettledDisksLeaveWhatIsRead = (files : Half → File) (outcome : CrashBytes) → IsSettled files →
    MayLeave files outcome → (half : Half) → outcome half ≡ (files half).now
