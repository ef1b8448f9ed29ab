-- Two halves: what is taken of them, and what a crash may leave of each write.
use Rattle.std.specs.Prelude.{◌≡◌, ◌⊎◌, ℕ, ◌+◌, ◌-◌, Bool, true, false, List, ◌∷◌, ◌++◌, take, drop, Option, None}
use Rattle.charmlet_model.specs.declared.half.Half.{Half}
use Rattle.charmlet_model.specs.Half.{other}
use Rattle.charmlet_disk.specs.declared.disk.Disk.{Ghosts}
use Rattle.charmlet_disk.specs.File.{CrashBytes}
use Rattle.charmlet_halves.specs.declared.halves.Halves.{Halves}
use Rattle.charmlet_image.specs.Spelled.{Spells, IsClosed}

-- the disk that they own
abbrev pub disk_of : {D : Type 0} {G : Ghosts D} → Halves D G → D
disk_of halves = halves.disk

-- the half that is taken
abbrev pub taken_half : {D : Type 0} {G : Ghosts D} → Halves D G → Half
taken_half halves = halves.taken

-- its generation
abbrev pub generation_of : {D : Type 0} {G : Ghosts D} → Halves D G → ℕ
generation_of halves = halves.generation

-- the place of the closed gate after its last batch
abbrev pub end_of : {D : Type 0} {G : Ghosts D} → Halves D G → ℕ
end_of halves = halves.log_end

-- an earlier call met a failure of the device
abbrev pub is_halted : {D : Type 0} {G : Ghosts D} → Halves D G → Bool
is_halted halves = halves.halted

-- the first gate of the other half is there and closed
abbrev pub is_spare_closed : {D : Type 0} {G : Ghosts D} → Halves D G → Bool
is_spare_closed halves = halves.spare_closed

-- where the log of the image that is prepared will begin
abbrev pub prepared_end : {D : Type 0} {G : Ghosts D} → Halves D G → Option ℕ
prepared_end halves = halves.prepared

-- the bytes of the half that is taken
abbrev pub taken_of : {D : Type 0} {G : Ghosts D} → Halves D G → List ℕ
taken_of {G = G} halves = (G.file halves.disk halves.taken).now

-- the bytes of the other half
abbrev pub spare_of : {D : Type 0} {G : Ghosts D} → Halves D G → List ℕ
spare_of {G = G} halves = (G.file halves.disk (other halves.taken)).now

-- what the taken half says, up to the closed gate after its last batch
abbrev pub text_of : {D : Type 0} {G : Ghosts D} → Halves D G → List ℕ
text_of halves = take halves.log_end (taken_of halves)

-- the image that stands in the other half up to this place
abbrev pub image_to : {D : Type 0} {G : Ghosts D} → Halves D G → ℕ → List ℕ
image_to halves at = take (at - 1) (drop 1 (spare_of halves))

-- the taken half says what it said, or that and this batch, and the other half is as it was
abbrev pub HasOldOrBatch : {D : Type 0} {G : Ghosts D} → Halves D G → List ℕ → CrashBytes → Type 0
HasOldOrBatch halves batch outcome =
    (Spells (outcome halves.taken) (text_of halves)
    ⊎ Spells (outcome halves.taken) (text_of halves ++ (1 ∷ batch)))
    × (outcome (other halves.taken) ≡ spare_of halves)

-- the taken half is as it was, and the other one is closed or as it was
abbrev pub KeepsTaken : {D : Type 0} {G : Ghosts D} → Halves D G → CrashBytes → Type 0
KeepsTaken halves outcome =
    (outcome halves.taken ≡ taken_of halves)
    × (IsClosed (outcome (other halves.taken)) ⊎ (outcome (other halves.taken) ≡ spare_of halves))

-- the half that was taken is as it was, and the other one is closed or says this image alone
abbrev pub HasOldOrImage : {D : Type 0} {G : Ghosts D} → Halves D G → List ℕ → CrashBytes → Type 0
HasOldOrImage halves image outcome =
    (outcome halves.taken ≡ taken_of halves)
    × (IsClosed (outcome (other halves.taken))
    ⊎ Spells (outcome (other halves.taken)) (1 ∷ image))

-- what is taken stays, and nothing is halted
pub record SameTaken {D : Type 0} {G : Ghosts D} (old new : Halves D G) : Type 0 where
  pub taken : new.taken ≡ old.taken
  pub generation : new.generation ≡ old.generation
  pub log_end : new.log_end ≡ old.log_end
  pub going : new.halted ≡ false

-- the halves are halted, and otherwise what is taken stays
pub record HaltsOnly {D : Type 0} {G : Ghosts D} (old new : Halves D G) : Type 0 where
  pub taken : new.taken ≡ old.taken
  pub generation : new.generation ≡ old.generation
  pub log_end : new.log_end ≡ old.log_end
  pub halted : new.halted ≡ true

-- the other half is taken, at the next generation, and its log begins at this place
pub record TakesOther {D : Type 0} {G : Ghosts D} (old new : Halves D G) (at : ℕ) : Type 0 where
  pub taken : new.taken ≡ other old.taken
  pub generation : new.generation ≡ old.generation + 1
  pub log_end : new.log_end ≡ at
  pub prepared : new.prepared ≡ None
  pub going : new.halted ≡ false

-- the same half is taken, with a log that is longer by `size` bytes
pub record Lengthens {D : Type 0} {G : Ghosts D} (old new : Halves D G) (size : ℕ) : Type 0 where
  pub taken : new.taken ≡ old.taken
  pub generation : new.generation ≡ old.generation
  pub log_end : new.log_end ≡ old.log_end + size
  pub prepared : new.prepared ≡ None
  pub going : new.halted ≡ false
