-- What the parts of an open half are to what the half says.
use Rattle.std.specs.Prelude.{◌≡◌, ℕ, ◌<◌, ◌≤◌, ◌^◌, ◌+◌, List, [], length, slice_index, Result, Ok, Err}
use Rattle.charmlet_model.specs.declared.logged.Logged.{Logged}
use Rattle.charmlet_record.specs.declared.positioned.Positioned.{Positioned}
use Rattle.charmlet_record.specs.Places.{log_places}
use Rattle.charmlet_image.specs.Halves.{Open, found}
use Rattle.charmlet_image.specs.Images.{Saved}
use Rattle.charmlet_recovery.specs.Faults as faults
use Rattle.charmlet_recovery.specs.Recovered.{log_of, offset_of}
use Rattle.charmlet_reference.specs.declared.recovery.parts.Offsets.{Offsets}
use Rattle.charmlet_reference.specs.declared.recovery.parts.Parts.{Parts}
use Rattle.charmlet_reference.specs.declared.recovery.replayed.Place.{Place}
use Rattle.charmlet_reference.specs.declared.recovery.replayed.Place.TheVariants.{InCatchUp, InPending, InEvents}
use Rattle.charmlet_reference.specs.Recovery.Views.{image_of}

-- the events of a log that was read, with the places that the lengths say; after the last batch
-- stands a closed gate
abbrev pub places_in : Result (List (List Logged) × List ℕ) ℕ → List (Positioned Logged)
places_in (Ok x) = log_places (length x.1 + 1) x.0
places_in (Err left) = []

-- the first `count` numbers, each the offset of the record at its place
abbrev pub AreOffsets : (ℕ → ℕ) → ℕ → List ℕ → Type 0
AreOffsets offset count numbers = (i : ℕ) → i < count → slice_index numbers i ≡ offset i

-- what the half says, part by part
pub record AreParts (s : Saved) (p : Parts) : Type 0 where
  pub generation : p.generation ≡ s.header.generation
  pub before : p.before ≡ s.header.events
  pub image : image_of p.image p.caught_up.items ≡ s.image
  pub log : p.log.items ≡ log_of s
  pub caught_up : AreOffsets (λ i. offset_of s (faults.InCatchUp i))
      (length s.image.caught_up) p.offsets.caught_up.items
  pub pending : AreOffsets (λ i. offset_of s (faults.InPending i))
      (length s.image.pending) p.offsets.pending.items
  pub events : AreOffsets (λ i. offset_of s (faults.InEvents i))
      (length (log_of s)) p.offsets.events.items

-- the bytes are those of an open half with these parts, whose image came after at most 2^40 events
abbrev pub HasParts : List ℕ → Parts → Type 0
HasParts bytes p = (s : Saved) × (found bytes ≡ Open s) × AreParts s p × (p.before ≤ 2 ^ 40)

-- the offset of the record at a place
abbrev pub offset_at : Offsets → Place → ℕ
offset_at offsets (InCatchUp i) = slice_index offsets.caught_up.items i
offset_at offsets (InPending i) = slice_index offsets.pending.items i
offset_at offsets (InEvents i) = slice_index offsets.events.items i
