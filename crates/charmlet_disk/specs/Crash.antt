-- What each choice of a crash leaves of a file.
use Rattle.std.specs.Prelude.{ℕ, zero, suc, ◌+◌, ◌/◌, max, List, [], ◌∷◌, map, length, slice_index, if◌then◌else◌}
use Rattle.std.specs.List.{range_with_len}
use Rattle.charmlet_disk.specs.declared.crash.CrashChoice.{CrashChoice}
use Rattle.charmlet_disk.specs.declared.crash.CrashChoice.TheVariants.{Old, New, Zeros, Ones, Sevens, FirstHalves}
use Rattle.charmlet_disk.specs.File.{File, covers}

-- n bytes, each by its place
abbrev pub by_place : ℕ → (ℕ → ℕ) → List ℕ
by_place n byte_at = map byte_at (range_with_len 0 n)

-- one byte wherever the file was written since its last sync
abbrev pub filled : ℕ → File → List ℕ
filled byte file = by_place (length file.now)
    (λ k. if covers file.ranges k then byte else slice_index file.now k)

-- the first half of each range, rounded down
abbrev pub first_halves : List (ℕ × ℕ) → List (ℕ × ℕ)
first_halves ranges = map (λ range. (range.0, range.1 / 2)) ranges

-- where a range ends, or 0 if it is empty
abbrev pub range_end : ℕ × ℕ → ℕ
range_end (at, zero) = 0
range_end (at, suc n) = at + suc n

-- where the last of the ranges ends
abbrev pub last_end : List (ℕ × ℕ) → ℕ
last_end [] = 0
last_end (range ∷ ranges) = max (range_end range) (last_end ranges)

-- what is in a first half is new, and the rest old; what is past the old end and in no first half
-- is cut off, or 0 before one
abbrev pub half_written : File → List ℕ
half_written file = by_place (max (length file.sure) (last_end (first_halves file.ranges)))
    (λ k. if covers (first_halves file.ranges) k then slice_index file.now k
    else slice_index file.sure k)

-- what a crash leaves by its choice
abbrev pub left_by : CrashChoice → File → List ℕ
left_by Old file = file.sure
left_by New file = file.now
left_by Zeros file = filled 0 file
left_by Ones file = filled 1 file
left_by Sevens file = filled 7 file
left_by FirstHalves file = half_written file
