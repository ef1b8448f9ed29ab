-- Retired objects: they are kept with the blanks, or dropped.
use Rattle.std.specs.Prelude.{ℕ, Bool, if◌then◌else◌}

-- how many of the retired objects were dropped
abbrev pub dropped_of : Bool → ℕ → ℕ
dropped_of keeps retired = if keeps then 0 else retired

-- how many of the retired objects are still there
abbrev pub kept_of : Bool → ℕ → ℕ
kept_of keeps retired = if keeps then retired else 0
