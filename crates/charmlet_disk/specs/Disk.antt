-- What the calls of a disk leave, and how its time goes on.
use Rattle.std.specs.Prelude.{◌≡◌, ◌⊎◌, ℕ, ◌+◌, ◌^◌, ◌-◌, ◌≤◌, min, Bool, true, false}
use Rattle.charmlet_model.specs.declared.half.Half.{Half}
use Rattle.charmlet_disk.specs.File.{File, CrashBytes, clean}

-- both halves stay as they are
abbrev pub SameFiles : (Half → File) → (Half → File) → Type 0
SameFiles old new = (half : Half) → new half ≡ old half

-- time goes on: a crash since t might have left what it might have left before, or what it may
-- leave now
pub record Elapses (before now : ℕ) (past since : ℕ → CrashBytes → Type 0)
    (may_leave : CrashBytes → Type 0) : Type 0 where
  pub later : before ≤ now
  pub nothing_else : (t : ℕ) (c : CrashBytes) → t ≤ before → since t c → past t c ⊎ may_leave c
  pub keeps : (t : ℕ) (c : CrashBytes) → t ≤ before → past t c → since t c

-- the count of failures after a call: a fault adds one, up to the largest count
abbrev pub faults_after : Bool → ℕ → ℕ
faults_after true faults = faults
faults_after false faults = min (faults + 1) (2 ^ 64 - 1)

-- nothing was written to either half since its last sync
abbrev pub IsSettled : (Half → File) → Type 0
IsSettled files = (half : Half) → files half ≡ clean (files half).now

-- a crash at any moment since old leaves only what has P
pub record LeavesOnly {D : Type 0} (moment : D → ℕ) (since : D → ℕ → CrashBytes → Type 0)
    (old new : D)
    (P : CrashBytes → Type 0) : Type 0 where
  pub later : moment old ≤ moment new
  pub each : (c : CrashBytes) → since new (moment old) c → P c
  -- for a run that began earlier
  pub before : (t : ℕ) (c : CrashBytes) → t ≤ moment old → since new t c → since old t c ⊎ P c
