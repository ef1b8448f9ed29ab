-- Files whose first bytes are a half, whatever follows its closed gate.
use Rattle.std.specs.Prelude.{◌≡◌, ◌≢◌, ℕ, ◌<◌, List, length, take, slice_index}
use Rattle.charmlet_record.specs.Lawful.{IsBytes}
use Rattle.charmlet_image.specs.Images.{Saved, spell_half}
use Rattle.charmlet_image.specs.Halves.{Shut, top, Open, found, IsSaved}

-- the bytes begin with this text, and an item that isn't an open gate stands after it
pub record Spells (bytes text : List ℕ) : Type 0 where
  pub front : take (length text) bytes ≡ text
  pub inside : length text < length bytes
  pub closed : slice_index bytes (length text) ≢ 1

-- a half that isn't open has at most one byte, or another first byte
abbrev pub IsClosed : List ℕ → Type 0
IsClosed bytes = 1 < length bytes → slice_index bytes 0 ≢ 1

-- closed halves are shut, and only they are
pub record ClosedIsShut (bytes : List ℕ) : Type 0 where
  pub shut : IsClosed bytes → top bytes ≡ Shut
  pub closed : top bytes ≡ Shut → IsClosed bytes

-- a half that is spelled so is found
abbrev pub SpelledIsFound : Type 0
SpelledIsFound = (bytes : List ℕ) (s : Saved) → IsSaved s → Spells bytes (spell_half s) →
    found bytes ≡ Open s

-- and a half of bytes that is found was spelled so
abbrev pub FoundIsSpelled : Type 0
FoundIsSpelled = (bytes : List ℕ) (s : Saved) → IsBytes bytes → found bytes ≡ Open s → IsSaved s
    × Spells bytes (spell_half s)
