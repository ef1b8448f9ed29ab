-- What two halves say, as the calls that read them answer it.
use Rattle.std.specs.Prelude.{◌≡◌, ℕ, ◌+◌, ◌==◌, List, length, if◌then◌else◌, Result, Ok, Err}
use Rattle.std.specs.List.{flat_map}
use Rattle.charmlet_model.specs.declared.half.Half.{Half}
use Rattle.charmlet_model.specs.declared.half.Half.TheVariants.{Zero, One}
use Rattle.charmlet_model.specs.Half.{other}
use Rattle.charmlet_model.specs.declared.refusal.Refusal.{Refusal}
use Rattle.charmlet_model.specs.declared.refusal.Refusal.TheVariants as refusals
use Rattle.charmlet_image.specs.declared.header.Header.{Header}
use Rattle.charmlet_image.specs.Images.{Saved, spell_half}
use Rattle.charmlet_image.specs.Halves.{Open, found, Taken, NothingHere, Takes, DamagedAt, taken, taken_half, IsSaved}
use Rattle.charmlet_image.specs.Spelled.{Spells}
use Rattle.charmlet_halves.specs.declared.surveyed.Contents.{Contents}
use Rattle.charmlet_halves.specs.declared.surveyed.Surveyed.{Surveyed}
use Rattle.charmlet_halves.specs.Bytes.{FirstGate}

-- the bytes of one of two halves
abbrev pub bytes_of : List ℕ → List ℕ → Half → List ℕ
bytes_of first second Zero = first
bytes_of first second One = second

-- what is answered if nothing is taken
abbrev pub Refuses : Taken → Refusal → Type 0
Refuses t (refusals.Damaged half offset) = t ≡ DamagedAt half offset
Refuses t refusals.NothingHere = t ≡ NothingHere
Refuses t _ = ⊥

-- a half is taken, whatever it says, or nothing is
abbrev pub Chooses : List ℕ → List ℕ → Result Half Refusal → Type 0
Chooses first second (Ok half) = taken first second
    ≡ taken_half half (found (bytes_of first second half))
Chooses first second (Err refusal) = Refuses (taken first second) refusal

-- of two headers the one of the later generation, if the generations are consecutive
abbrev pub ComesLater : Header → Header → Result Half Refusal → Type 0
ComesLater first second result =
    result ≡ (if second.generation == first.generation + 1 then Ok One
    else (if first.generation == second.generation + 1 then Ok Zero
    else Err (refusals.Damaged One 5)))

-- what a half has by its bytes is what they say
pub record Says (bytes : List ℕ) (contents : Contents) (s : Saved) : Type 0 where
  pub good : IsSaved s
  pub found : found bytes ≡ Open s
  pub spells : Spells bytes (spell_half s)
  pub header : contents.header ≡ s.header
  pub logged : contents.logged ≡ length (flat_map (λ batch. batch) s.batches)
  pub log_end : contents.log_end ≡ length (spell_half s)

-- a survey has the bytes of an open half, and what they say
abbrev pub Reads : Surveyed → Type 0
Reads v = (s : Saved) × Says v.bytes.items v.contents s

-- what the bytes of a half that is taken have
abbrev pub ContentsAre : Half → List ℕ → Result Contents Refusal → Type 0
ContentsAre half bytes (Ok contents) = (s : Saved) × Says bytes contents s
ContentsAre half bytes (Err refusals.Memory) = Unit {0}
ContentsAre half bytes (Err refusal) = Refuses (taken_half half (found bytes)) refusal

-- a call finds what two halves say, unless memory is refused or the device fails
abbrev pub Finds : List ℕ → List ℕ → Result Surveyed Refusal → Type 0
Finds first second (Ok v) =
    (v.bytes.items ≡ bytes_of first second v.half)
    × FirstGate v.spare_closed (bytes_of first second (other v.half))
    × ((s : Saved) → Says v.bytes.items v.contents s → taken first second ≡ Takes v.half s)
Finds first second (Err refusals.Memory) = Unit {0}
Finds first second (Err refusals.Device) = Unit {0}
Finds first second (Err refusal) = Refuses (taken first second) refusal
