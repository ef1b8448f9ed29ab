-- One file between two syncs, and what a crash may leave of it.
use Rattle.std.specs.Prelude.{◌≡◌, ℕ, ◌+◌, ◌<◌, ◌≤◌, max, Bool, false, ◌&&◌, List, [], ◌∷◌, ◌++◌, length, take, drop, slice_index, nat_lt, nat_le}
use Rattle.std.specs.List.{list_any}
use Rattle.charmlet_model.specs.declared.half.Half.{Half}

-- a file: what a read gives, its bytes at the last sync that succeeded, and since then
-- the offset and length of each write, the oldest first, and the greatest length
pub record File : Type 0 where
  pub now : List ℕ
  pub sure : List ℕ
  pub ranges : List (ℕ × ℕ)
  pub greatest : ℕ

-- nothing was written since the last sync
abbrev pub clean : List ℕ → File
clean bytes = record { now = bytes; sure = bytes; ranges = []; greatest = length bytes }

-- these bytes in place of those from an offset on
abbrev pub overwritten : ℕ → List ℕ → List ℕ → List ℕ
overwritten at bytes old = take at old ++ bytes ++ drop (at + length bytes) old

-- the file after a write
abbrev pub wrote : ℕ → List ℕ → File → File
wrote at bytes file = record {
  now = overwritten at bytes file.now;
  sure = file.sure;
  ranges = file.ranges ++ (at, length bytes) ∷ [];
  greatest = max file.greatest (at + length bytes);
}

-- a place is within a range
abbrev pub is_within : ℕ → ℕ × ℕ → Bool
is_within k range = nat_le range.0 k && nat_lt k (range.0 + range.1)

-- one of the ranges has this place
abbrev pub covers : List (ℕ × ℕ) → ℕ → Bool
covers ranges k = list_any (is_within k) ranges

-- what a crash may leave of the file: some length between, and outside the ranges what was sure
pub record MayBeLeft (file : File) (bytes : List ℕ) : Type 0 where
  pub no_shorter : length file.sure ≤ length bytes
  pub no_longer : length bytes ≤ file.greatest
  pub outside : (k : ℕ) → k < length file.sure → covers file.ranges k ≡ false → slice_index bytes k
      ≡ slice_index file.sure k

-- the bytes of both halves after a crash
abbrev pub CrashBytes : Type 0
CrashBytes = Half → List ℕ

-- what a crash now may leave of both
abbrev pub MayLeave : (Half → File) → CrashBytes → Type 0
MayLeave files outcome = (half : Half) → MayBeLeft (files half) (outcome half)
