-- What the plain program's values say.
use Rattle.std.specs.Prelude.{◌≡◌, ℕ, ◌+◌, ◌==◌, List, if◌then◌else◌}
use Rattle.charmlet_model.specs.declared.half.Half.{Half}
use Rattle.charmlet_model.specs.declared.half.Half.TheVariants.{Zero, One}
use Rattle.charmlet_model.specs.declared.logged.CatchUpEntry.{CatchUpEntry}
use Rattle.charmlet_model.specs.World.{World}
use Rattle.charmlet_image.specs.declared.header.Header.{Header}
use Rattle.charmlet_image.specs.Halves.{Taken, NothingHere, DamagedAt, found, taken, taken_half}
use Rattle.charmlet_image.specs.Images.{Image}
use Rattle.charmlet_recovery.specs.Faults as faults
use Rattle.charmlet_recovery.specs.Meanings as meanings
use Rattle.charmlet_recovery.specs.Recovered as definitions
use Rattle.charmlet_reference.specs.declared.recovery.replayed.Place.{Place}
use Rattle.charmlet_reference.specs.declared.recovery.replayed.Place.TheVariants.{InCatchUp, InPending, InEvents}
use Rattle.charmlet_reference.specs.declared.recovery.replayed.Meaning.{Meaning}
use Rattle.charmlet_reference.specs.declared.recovery.replayed.Meaning.TheVariants.{Faulty, Whole}
use Rattle.charmlet_reference.specs.declared.recovery.recovered.Recovered.{Recovered}
use Rattle.charmlet_reference.specs.declared.recovery.recovered.Recovered.TheVariants.{Nothing, Damaged, Found}
use Rattle.charmlet_reference.specs.declared.recovery.recovered.Choice.{Choice}
use Rattle.charmlet_reference.specs.declared.recovery.recovered.Choice.TheVariants as choices

-- the image that has this world before its catch-up list, and that list
abbrev pub image_of : World → List CatchUpEntry → Image
image_of w deliveries = record {
  manifest = w.manifest;
  clients = w.clients;
  pending = w.pending;
  records = w.records;
  caught_up = deliveries;
}

-- the place of a record
abbrev pub place_seen : Place → faults.Place
place_seen (InCatchUp i) = faults.InCatchUp i
place_seen (InPending i) = faults.InPending i
place_seen (InEvents i) = faults.InEvents i

-- what an image and its log come to
abbrev pub meaning_seen : Meaning → meanings.Meaning
meaning_seen (Faulty place) = meanings.Faulty (place_seen place)
meaning_seen (Whole w count) = meanings.Whole w count

-- what two files recover to
abbrev pub seen : Recovered → definitions.Recovered
seen Nothing = definitions.Nothing
seen (Damaged half offset) = definitions.Damaged half offset
seen (Found w events generation) = definitions.Found w events generation

-- the bytes of the two files
abbrev pub files : List ℕ → List ℕ → Half → List ℕ
files zero one Zero = zero
files zero one One = one

-- of two open halves the one of the next generation is taken
abbrev pub later_choice : Header → Header → Choice
later_choice h k =
    if k.generation == h.generation + 1 then choices.Take One
    else (if h.generation == k.generation + 1 then choices.Take Zero else choices.Damaged One 5)

-- what is taken of two halves by this choice
abbrev pub choice_made : List ℕ → List ℕ → Choice → Taken
choice_made first second choices.Neither = NothingHere
choice_made first second (choices.Take Zero) = taken_half Zero (found first)
choice_made first second (choices.Take One) = taken_half One (found second)
choice_made first second (choices.Damaged half offset) = DamagedAt half offset

-- the choice is that of the definition
abbrev pub IsChoice : List ℕ → List ℕ → Choice → Type 0
IsChoice first second choice = taken first second ≡ choice_made first second choice
