-- What is found in two halves, or why nothing is.
use Rattle.std.specs.Prelude.{◌≡◌, ℕ, true, false, Result, Ok, Err}
use Rattle.charmlet_model.specs.declared.half.Half.{Half}
use Rattle.charmlet_model.specs.declared.refusal.Refusal.{Refusal}
use Rattle.charmlet_model.specs.declared.refusal.Refusal.TheVariants as refusals
use Rattle.charmlet_disk.specs.File.{File, CrashBytes}
use Rattle.charmlet_halves.specs.Answers.{is_finding_refusal}
use Rattle.charmlet_locate.specs.Locations.{is_processor_count}
use Rattle.charmlet_recovery.specs.Recovered as files
use Rattle.charmlet_recovery.specs.Recovered.{Recovered}
use Rattle.charmlet_reference.specs.Recovery.Written.{recovered_as_written}
use Rattle.charmlet_dump.specs.declared.found.Found.{Found}

-- what a read of each half gives
abbrev pub read_of : (Half → File) → CrashBytes
read_of files half = (files half).now

-- a world is found, or a refusal is answered, as two halves recover to it, unless out of memory or
-- the device fails
abbrev pub Comes : Recovered → Result Found Refusal → Type 0
Comes r (Ok found) = r ≡ files.Found found.world found.events found.generation
Comes r (Err (refusals.Damaged half offset)) = r ≡ files.Damaged half offset
Comes r (Err refusals.NothingHere) = r ≡ files.Nothing
Comes r (Err refusals.Memory) = Unit {0}
Comes r (Err refusals.Device) = Unit {0}
Comes r (Err refusal) = ⊥

-- the number of processors is refused, if and only if there aren't 1 to 64; otherwise what these
-- bytes recover to, in the versions that are written, is answered
abbrev pub IsAnswer : ℕ → CrashBytes → Result Found Refusal → Type 0
IsAnswer processors outcome (Err refusals.BadPes) = is_processor_count processors ≡ false
IsAnswer processors outcome answer = (is_processor_count processors ≡ true)
    × Comes (recovered_as_written outcome) answer

-- on any disk, what is found is what some halves recover to, in the versions that are written
abbrev pub IsRecovered : Found → Type 0
IsRecovered found = (outcome : CrashBytes)
    × (recovered_as_written outcome ≡ files.Found found.world found.events found.generation)

-- on any disk, it is refused for the number of processors, or otherwise for a fault
abbrev pub IsRefusal : ℕ → Refusal → Type 0
IsRefusal processors refusals.BadPes = is_processor_count processors ≡ false
IsRefusal processors refusal =
    (is_processor_count processors ≡ true) × (is_finding_refusal refusal ≡ true)
