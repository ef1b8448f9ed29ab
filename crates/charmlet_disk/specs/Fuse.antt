-- What a fuse shows.
use Rattle.std.specs.Prelude.{◌≡◌, ℕ, ◌+◌, ◌-◌, ◌^◌, ◌<◌, min, Bool, false}
use Rattle.charmlet_disk.specs.declared.fuse_disk.FuseDisk.{FuseDisk}
use Rattle.charmlet_disk.specs.Disk.{faults_after}

-- the disk that it passes calls on to
abbrev pub inside : {D : Type 0} → FuseDisk D → D
inside fuse = fuse.disk

-- how many calls it still passes
abbrev pub calls_left : {D : Type 0} → FuseDisk D → ℕ
calls_left fuse = fuse.left

-- how many calls it failed by itself
abbrev pub refusals : {D : Type 0} → FuseDisk D → ℕ
refusals fuse = fuse.refused

-- the failures of the disk and its own
abbrev pub faults_of_both : ℕ → ℕ → ℕ
faults_of_both disk own = min (disk + own) (2 ^ 64 - 1)

-- a call passes while calls are left, and uses one up; after them it fails, and the disk stays
pub record Burns {D : Type 0} (faults : D → ℕ) (old new : FuseDisk D) (ok : Bool) : Type 0 where
  pub left : calls_left new ≡ calls_left old - 1
  pub passed : 0 < calls_left old → (refusals new ≡ refusals old)
      × (faults (inside new) ≡ faults_after ok (faults (inside old)))
  pub blown : calls_left old ≡ 0 → (ok ≡ false) × (inside new ≡ inside old)

-- a call passes, and as many calls are left as before
pub record PassesFree {D : Type 0} (old new : FuseDisk D) : Type 0 where
  pub left : calls_left new ≡ calls_left old
  pub refusals : refusals new ≡ refusals old
