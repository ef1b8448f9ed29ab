-- What a call leaves of a disk.
use Rattle.std.specs.Prelude.{◌≡◌, Bool}
use Rattle.charmlet_model.specs.declared.half.Half.{Half}
use Rattle.charmlet_disk.specs.declared.disk.Disk.{Ghosts}
use Rattle.charmlet_disk.specs.Disk.{LeavesOnly, SameFiles, faults_after}
use Rattle.charmlet_disk.specs.File.{File, MayLeave}

-- a read of either half gives what it gave
abbrev pub ReadsSame : (Half → File) → (Half → File) → Type 0
ReadsSame old new = (half : Half) → (new half).now ≡ (old half).now

module _ {D : Type 0} (G : Ghosts D) where
  -- Any call leaves a disk as honest as before, and it has counted one more failure exactly where
  -- the device failed.
  pub record AfterCall (old new : D) (is_ok : Bool) : Type 0 where
    pub honest : (G.honest old → G.honest new) × (G.honest new → G.honest old)
    pub counted : G.faults new ≡ faults_after is_ok (G.faults old)

  -- An honest disk was only read: both halves stay as they are, and a crash at any moment leaves
  -- what one before might have left.
  pub record IsOnlyRead (old new : D) : Type 0 where
    pub same : SameFiles (G.file old) (G.file new)
    pub any_moment : LeavesOnly G.moment G.since old new (MayLeave (G.file old))

  -- Nothing was written to an honest disk, but it may have been synced: a read of either half gives
  -- what it gave, and a crash at any moment leaves what one before might have left.
  pub record IsUnwritten (old new : D) : Type 0 where
    pub same : ReadsSame (G.file old) (G.file new)
    pub any_moment : LeavesOnly G.moment G.since old new (MayLeave (G.file old))
