-- Names of handlers.
use Rattle.std.specs.Prelude.{ℕ, Bool, ◌&&◌, Option, Some, None, if◌then◌else◌, nat_lt, nat_le, length}
use Rattle.std.specs.Char.{is_ascii_alphabetic}
use Rattle.std.specs.List.{list_all}
use Rattle.charmlet_model.specs.Texts.{Text}

-- the most letters of a name
abbrev pub max_letters : ℕ
max_letters = 32

-- 1 to 32 letters, A to Z and a to z
abbrev pub is_name : Text → Bool
is_name word = list_all is_ascii_alphabetic word
    && (nat_lt 0 (length word) && nat_le (length word) max_letters)

-- a name
unfoldable pub name_of : Text → Option Text
name_of word = if is_name word then Some word else None
