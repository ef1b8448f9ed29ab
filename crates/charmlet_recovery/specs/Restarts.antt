-- Why a restart is refused, by what the files say and by the blanks that are given.
use Rattle.std.specs.Prelude.{ℕ, ◌+◌, ◌^◌, nat_le, Bool, false, not, List, if◌then◌else◌, Option, Some, None}
use Rattle.charmlet_model.specs.declared.half.Half.{Half}
use Rattle.charmlet_model.specs.declared.half.Half.TheVariants.{Zero, One}
use Rattle.charmlet_model.specs.declared.kind.Kind.{Kind}
use Rattle.charmlet_model.specs.declared.refusal.Refusal.{Refusal}
use Rattle.charmlet_model.specs.declared.refusal.Refusal.TheVariants as refusals
use Rattle.charmlet_model.specs.Core.{Blanks}
use Rattle.charmlet_model.specs.Sizes.{image_size}
use Rattle.charmlet_model.specs.World.{World}
use Rattle.charmlet_image.specs.Images.{Saved}
use Rattle.charmlet_image.specs.Halves.{Taken, NothingHere, Takes, DamagedAt, taken}
use Rattle.charmlet_recovery.specs.Meanings.{Meaning, Faulty, Whole}
use Rattle.charmlet_recovery.specs.Recovered.{is_current, log_of, meaning_of, offset_of}
use Rattle.charmlet_recovery.specs.Blanks.{wanted, least_short}

-- the blanks of each kind that a restart of this half needs
abbrev pub wanted_of : Saved → Blanks
wanted_of s = wanted s.image (log_of s)

-- a half whose records have a fault is damaged where the record begins
abbrev pub fault_refusal : Half → Saved → Meaning → Option Refusal
fault_refusal half s (Faulty place) = Some (refusals.Damaged half (offset_of s place))
fault_refusal half s (Whole w count) = None

-- a kind with missing blanks is named before any fault of a record
abbrev pub short_refusal : Option (Kind × ℕ) → Option Refusal → Option Refusal
short_refusal None later = later
short_refusal (Some lack) later = Some (refusals.BlanksWanted lack.0 lack.1)

-- by what is taken of two halves: nothing, a fault of the format, missing blanks, or a fault of a
-- record, in this order
abbrev pub taken_refusal : Blanks → Taken → Option Refusal
taken_refusal given NothingHere = Some refusals.NothingHere
taken_refusal given (DamagedAt half offset) = Some (refusals.Damaged half offset)
taken_refusal given (Takes half s) = short_refusal (least_short given (wanted_of s))
    (fault_refusal half s (meaning_of s))

-- why a restart from these files is refused, if it is
unfoldable pub restart_refusal : Blanks → (Half → List ℕ) → Option Refusal
restart_refusal given outcome = taken_refusal given (taken (outcome Zero) (outcome One))

-- ---- images that a restart writes

-- where the log of an image of the world begins: after a gate, a header of 24 bytes, and the image
abbrev pub image_end : World → ℕ
image_end w = 25 + image_size w

-- an image of the world can't follow a half of this generation: the next generation would be past
-- 2^40, or the file past 2^31 bytes
abbrev pub limit_refusal : ℕ → World → Option Refusal
limit_refusal generation w = if nat_le (2 ^ 40) generation then Some refusals.ImageFull
    else (if nat_le (2 ^ 31) (image_end w) then Some refusals.ImageFull else None)

-- a half that is current stays; of another one the world that it means is to be written as an image
abbrev pub image_refusal : Saved → Meaning → Option Refusal
image_refusal s (Faulty place) = None
image_refusal s (Whole w count) = if is_current s then None
    else limit_refusal s.header.generation w

-- the same for what is taken of two halves
abbrev pub taken_image_refusal : Taken → Option Refusal
taken_image_refusal NothingHere = None
taken_image_refusal (DamagedAt half offset) = None
taken_image_refusal (Takes half s) = image_refusal s (meaning_of s)

-- a half is taken, and it isn't current, so an image is to take its place
abbrev pub is_old : Taken → Bool
is_old NothingHere = false
is_old (DamagedAt half offset) = false
is_old (Takes half s) = not (is_current s)

-- a restart from these files has to write an image before events may be appended
unfoldable pub wants_image : (Half → List ℕ) → Bool
wants_image outcome = is_old (taken (outcome Zero) (outcome One))

-- the first cause, or else the next one
abbrev pub either_refusal : Option Refusal → Option Refusal → Option Refusal
either_refusal None later = later
either_refusal (Some refusal) later = Some refusal

-- why a restart from these files that writes an image where one is wanted is refused, if it is
unfoldable pub engine_refusal : Blanks → (Half → List ℕ) → Option Refusal
engine_refusal given outcome = either_refusal (restart_refusal given outcome)
    (taken_image_refusal (taken (outcome Zero) (outcome One)))
