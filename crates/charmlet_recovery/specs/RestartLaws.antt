-- The laws of refused restarts, and of the offsets of faults.
use Rattle.std.specs.Prelude.{length, ◌≡◌, ℕ, ◌≤◌, ◌<◌, List, slice_get, Option, Some, None, option_map}
use Rattle.charmlet_model.specs.declared.half.Half.{Half}
use Rattle.charmlet_model.specs.declared.half.Half.TheVariants.{Zero, One}
use Rattle.charmlet_model.specs.declared.kind.Kind.{Kind}
use Rattle.charmlet_model.specs.declared.refusal.Refusal.{Refusal}
use Rattle.charmlet_model.specs.declared.refusal.Refusal.TheVariants as refusals
use Rattle.charmlet_model.specs.Kind.{kind_number}
use Rattle.charmlet_model.specs.Core.{Blanks}
use Rattle.charmlet_model.specs.World.{World}
use Rattle.charmlet_model.specs.Spelling.{spell_message, spell_caught_up, spell_event}
use Rattle.charmlet_record.specs.Lawful.{IsBytes}
use Rattle.charmlet_image.specs.Images.{Saved}
use Rattle.charmlet_image.specs.Halves.{Open, found, Takes, taken}
use Rattle.charmlet_image.specs.Places.{StandsAt}
use Rattle.charmlet_recovery.specs.Faults.{Place, InCatchUp, InPending, InEvents}
use Rattle.charmlet_recovery.specs.Meanings.{Faulty}
use Rattle.charmlet_recovery.specs.Recovered.{Nothing, Found, Damaged, recovered, log_of, meaning_of, offset_of}
use Rattle.charmlet_recovery.specs.Blanks.{least_short}
use Rattle.charmlet_recovery.specs.Restarts.{wanted_of, taken_refusal, restart_refusal}

-- enough blanks of each kind are given
abbrev pub IsEnough : Blanks → Blanks → Type 0
IsEnough given needed = (kind : Kind) → needed kind ≤ given kind

-- fewer of the kind are given than are wanted, `count` are wanted in all, and no lower kind is
-- short
pub record IsLeastShort (given needed : Blanks) (kind : Kind) (count : ℕ) : Type 0 where
  pub short : given kind < needed kind
  pub all : count ≡ needed kind
  pub least : (lesser : Kind) → kind_number lesser < kind_number kind → needed lesser ≤ given lesser

-- what is missing, if anything: the lowest kind that is short, and how many of it are wanted;
-- otherwise there are enough of each
abbrev pub Lacks : Blanks → Blanks → Option (Kind × ℕ) → Type 0
Lacks given needed None = IsEnough given needed
Lacks given needed (Some lack) = IsLeastShort given needed lack.0 lack.1

-- the lowest kind that is short is found, and how many of it are wanted
abbrev pub LeastShortIsFound : Type 0
LeastShortIsFound = (given needed : Blanks) → Lacks given needed (least_short given needed)

-- why a restart is refused follows from what is taken of the two halves
abbrev pub RestartsAreTaken : Type 0
RestartsAreTaken = (given : Blanks) (outcome : Half → List ℕ) → restart_refusal given outcome
    ≡ taken_refusal given (taken (outcome Zero) (outcome One))

-- A restart that isn't refused finds a world, and has enough blanks.
pub record CanRestart (given : Blanks) (outcome : Half → List ℕ) : Type 0 where
  pub half : Half
  pub saved : Saved
  pub is_taken : taken (outcome Zero) (outcome One) ≡ Takes half saved
  pub enough : IsEnough given (wanted_of saved)
  pub world : World
  pub count : ℕ
  pub is_found : recovered outcome ≡ Found world count saved.header.generation

-- what is refused, and why
abbrev pub IsRefused : Blanks → (Half → List ℕ) → Option Refusal → Type 0
IsRefused given outcome None = CanRestart given outcome
IsRefused given outcome (Some (refusals.BlanksWanted kind count)) =
    (half : Half) × (s : Saved) × (taken (outcome Zero) (outcome One) ≡ Takes half s)
    × IsLeastShort given (wanted_of s) kind count
IsRefused given outcome (Some (refusals.Damaged half offset)) = recovered outcome
    ≡ Damaged half offset
IsRefused given outcome (Some refusal) = (refusal ≡ refusals.NothingHere)
    × (recovered outcome ≡ Nothing)

-- each refusal has its cause, and without one the files recover to a world for which there are
-- enough blanks
abbrev pub RestartsAreRefusedForCause : Type 0
RestartsAreRefusedForCause = (given : Blanks) (outcome : Half → List ℕ) →
    IsRefused given outcome (restart_refusal given outcome)

-- a restart from files that recover to a world is refused only for missing blanks
abbrev pub FoundLacksBlanksAlone : Type 0
FoundLacksBlanksAlone = (given : Blanks) (outcome : Half → List ℕ) (w : World)
    (count generation : ℕ) (half : Half) (s : Saved) →
    recovered outcome ≡ Found w count generation → taken (outcome Zero) (outcome One)
    ≡ Takes half s →
    restart_refusal given outcome ≡ option_map (λ lack. refusals.BlanksWanted lack.0 lack.1)
    (least_short given (wanted_of s))

-- the bytes of the record at a place, if there is one
abbrev pub record_text : Saved → Place → Option (List ℕ)
record_text s (InCatchUp i) = option_map spell_caught_up (slice_get s.image.caught_up i)
record_text s (InPending i) = option_map spell_message (slice_get s.image.pending i)
record_text s (InEvents i) = option_map spell_event (slice_get (log_of s) i)

-- there is a record at the place, and it stands at the offset
abbrev pub RecordStandsAt : ℕ → Option (List ℕ) → List ℕ → Type 0
RecordStandsAt offset None bytes = ⊥
RecordStandsAt offset (Some text) bytes = StandsAt offset text bytes

-- the offset of a fault is that of its record's first byte
abbrev pub FaultsStandThere : Type 0
FaultsStandThere = (bytes : List ℕ) (s : Saved) (place : Place) → IsBytes bytes →
    found bytes ≡ Open s → meaning_of s ≡ Faulty place →
    RecordStandsAt (offset_of s place) (record_text s place) bytes

-- both places are in one list, and the first one is before the other
abbrev pub IsEarlier : Place → Place → Type 0
IsEarlier (InCatchUp i) (InCatchUp j) = i < j
IsEarlier (InPending i) (InPending j) = i < j
IsEarlier (InEvents i) (InEvents j) = i < j
IsEarlier _ _ = ⊥

-- there is a record at the place
abbrev pub IsThere : Saved → Place → Type 0
IsThere s (InCatchUp i) = i < length s.image.caught_up
IsThere s (InPending i) = i < length s.image.pending
IsThere s (InEvents i) = i < length (log_of s)

-- offsets rise with places, so the first fault of a round is the one with the least offset
abbrev pub OffsetsRise : Type 0
OffsetsRise = (s : Saved) (one two : Place) → IsEarlier one two → IsThere s two →
    offset_of s one < offset_of s two
