-- When writers refuse.
use Rattle.std.specs.Prelude.{◌≡◌, ℕ, ◌+◌, ◌^◌, nat_le, ◌||◌, Bool, true, false, if◌then◌else◌, Option, Some, None, Result, Ok, Err, IfErr}
use Rattle.charmlet_model.specs.declared.refusal.Refusal.{Refusal}
use Rattle.charmlet_model.specs.declared.refusal.Refusal.TheVariants.{Damaged, Device, Halted, ImageFull, LogFull, Memory, NothingHere}

-- the call has this refusal, or it is done unless the device fails
abbrev pub Answers : {X : Type 0} → Option Refusal → Result X Refusal → Type 0
Answers (Some refusal) result = result ≡ Err refusal
Answers None result = IfErr result (λ refusal. refusal ≡ Device)

-- halves that are halted write nothing, and no log ends past 2^31 bytes
abbrev pub batch_refusal : Bool → ℕ → ℕ → Option Refusal
batch_refusal halted log_end size = if halted then Some Halted
    else (if nat_le (2 ^ 31) (log_end + size) then Some LogFull else None)

-- no image ends past 2^31 bytes, and no generation is above 2^40
abbrev pub image_refusal : Bool → ℕ → ℕ → Option Refusal
image_refusal halted generation size = if halted then Some Halted
    else (if nat_le (2 ^ 31) size || nat_le (2 ^ 40) generation then Some ImageFull else None)

-- a gate is opened unless the halves are halted
abbrev pub gate_refusal : Bool → Option Refusal
gate_refusal halted = if halted then Some Halted else None

-- the answer is no failure of the device
abbrev pub is_no_failure : {X : Type 0} → Result X Refusal → Bool
is_no_failure (Ok x) = true
is_no_failure (Err Device) = false
is_no_failure (Err refusal) = true

-- what two halves say can't be told: a fault, no store, no memory, or a failure
abbrev pub is_finding_refusal : Refusal → Bool
is_finding_refusal (Damaged half offset) = true
is_finding_refusal NothingHere = true
is_finding_refusal Memory = true
is_finding_refusal Device = true
is_finding_refusal _ = false
