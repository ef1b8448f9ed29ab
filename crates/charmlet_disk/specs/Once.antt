-- What a disk that fails one call shows.
use Rattle.std.specs.Prelude.{◌≡◌, ◌≢◌, ℕ, ◌-◌, Bool, false, nat_eq, if◌then◌else◌, Option, Some, None}
use Rattle.charmlet_disk.specs.declared.once_disk.OnceDisk.{OnceDisk}
use Rattle.charmlet_disk.specs.Disk.{faults_after}

-- the disk that it passes calls on to
abbrev pub inner_disk : {D : Type 0} → OnceDisk D → D
inner_disk once = once.disk

-- how many calls pass before the one that fails, or none once it has failed
abbrev pub calls_before : {D : Type 0} → OnceDisk D → Option ℕ
calls_before once = once.left

-- how many calls it failed by itself
abbrev pub failed_calls : {D : Type 0} → OnceDisk D → ℕ
failed_calls once = once.failed

-- after one more call
abbrev pub one_less : Option ℕ → Option ℕ
one_less None = None
one_less (Some calls) = if nat_eq calls 0 then None else Some (calls - 1)

-- a call passes unless it is the one that fails, which leaves the disk as it is
pub record Spends {D : Type 0} (faults : D → ℕ) (old new : OnceDisk D) (ok : Bool) : Type 0 where
  pub left : calls_before new ≡ one_less (calls_before old)
  pub passed : calls_before old ≢ Some 0 → (failed_calls new ≡ failed_calls old)
      × (faults (inner_disk new) ≡ faults_after ok (faults (inner_disk old)))
  pub failed : calls_before old ≡ Some 0 → (ok ≡ false) × (inner_disk new ≡ inner_disk old)
