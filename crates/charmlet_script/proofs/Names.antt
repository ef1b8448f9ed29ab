-- Names are text.
use Rattle.std.proofs.Common.{◌≡◌, ◌<◌, ◌&&◌, ℕ, [], ◌∷◌, Bool, true, false, arith, refl}
use Rattle.std.specs.Char.{is_ascii_alphabetic}
use Rattle.std.specs.List.{list_all}
use Rattle.std.specs.Str.{IsAscii, IsUtf8}
use Rattle.std.proofs.lemmas.Bool.Decides.{nat_tests}
use Rattle.std.proofs.lemmas.Str.{IsUtf8-from_ascii}
use Rattle.std.proofs.lemmas.Str.Ascii.{IsAscii-nil, IsAscii-cons}
use Rattle.charmlet_model.specs.Texts.{Text}
use Rattle.charmlet_script.specs.Name.{is_name}

both_parts : (a b : Bool) → (a && b) ≡ true → (a ≡ true) × (b ≡ true)
both_parts true b e = (refl, e)
both_parts false b e = absurd (cc)

letter-is_ascii : (letter : ℕ) → is_ascii_alphabetic letter ≡ true → letter < 128
letter-is_ascii letter h = grind (arith, nat_tests)

are_ascii : (letters : Text) → list_all is_ascii_alphabetic letters ≡ true → IsAscii letters
are_ascii [] h = IsAscii-nil
are_ascii (letter ∷ letters) h =
    let parts = both_parts (is_ascii_alphabetic letter) (list_all is_ascii_alphabetic letters) h in
    IsAscii-cons letter letters (letter-is_ascii letter parts.0) (are_ascii letters parts.1)

-- the letters of a name are text
pub is_text : (name : Text) → is_name name ≡ true → IsUtf8 name
is_text name h = IsUtf8-from_ascii name (are_ascii name (both_parts _ _ h).0)
