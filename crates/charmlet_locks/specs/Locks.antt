-- What is seen of locks that are being filled.
use Rattle.std.specs.Prelude.{◌≡◌, ℕ, List, map, Option, Some, None}
use Rattle.std.specs.List.{range_with_len}

-- how many places there are, and how many of them have their value
pub record RoomShown : Type 0 where
  pub places : ℕ
  pub filled : ℕ

abbrev pub shown : ℕ → ℕ → RoomShown
shown places filled = record { places = places; filled = filled }

-- A place whose lock is taken, its value, and the number of that. There always is a value.
pub record Gripped (T : Type 0) : Type 0 where
  pub place : ℕ
  pub value : Option T
  pub number : ℕ

module _ {T : Type 0} (number : T → ℕ) where
  -- the number of a value, if there is one
  abbrev pub number_of : Option T → ℕ
  number_of None = 0
  number_of (Some x) = number x

  abbrev pub gripped : ℕ → Option T → Gripped T
  gripped place value = record { place = place; value = value; number = number_of value }

  -- the values have the numbers of the places, in their order
  abbrev pub AreInOrder : ℕ → List T → Type 0
  AreInOrder places values = map number values ≡ range_with_len 0 places
