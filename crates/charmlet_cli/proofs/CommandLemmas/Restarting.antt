-- From the values of a line to the restart that they name.
use Rattle.std.proofs.Common.{◌≡◌, ◌<◌, ℕ, true, false, Bool, Option, Some, None, codes, refl, ap, arith, option_and_then, Result, Ok, Err, ◌^◌}
use Rattle.std.specs.Str.Parse.{IsNumeral, ParsesUnsigned, digits_value, without_leading_plus}
use Rattle.clap.specs.Matches.{ReadsOne, first_value, one_text}
use Rattle.clap.specs.Walk.{Text, rows_of}
use Rattle.clap.specs.Values.{IsUnsignedIn}
use Rattle.clap.specs.ValueTests.{is_unsigned_in}
use Rattle.clap.specs.declared.builder.value_parser.ValueParser.TheVariants as parsers
use Rattle.clap.specs.declared.parser.matches.Found.{Found}
use Rattle.clap.proofs.ValueTestLemmas.{Accepts-accepts, accepts-Accepts}
use Rattle.clap.proofs.WalkLemmas.{first_value-rows, one_text-rows}
use Rattle.charmlet_cli.specs.Command.CommandLine.{Asked, Restarts, is_on, restart_of, u16_in}

-- what `parse` makes of a word is what it spells
number_is : (word : Text) (n : ℕ) → (IsNumeral 10 (without_leading_plus word) × (digits_value 10 (without_leading_plus word) < 2 ^ 16)) → n ≡ digits_value 10 (without_leading_plus word)
    → Some n ≡ u16_in word
number_is word n reads value =
    let inside : IsUnsignedIn 0 65535 word = (reads.0, omega (arith, reads.1), omega arith, omega (arith, reads.1)) in
    let test : is_unsigned_in 0 65535 word ≡ true = Accepts-accepts false (parsers.Unsigned 0 65535) word inside in
    rw test (ap Some value)

no_number : (word : Text) → ((IsNumeral 10 (without_leading_plus word) × (digits_value 10 (without_leading_plus word) < 2 ^ 16)) → ⊥) → None ≡ u16_in word
no_number word refused = by_test (is_unsigned_in 0 65535 word) refl
  where
    by_test : (inside : Bool) → is_unsigned_in 0 65535 word ≡ inside → None ≡ u16_in word
    by_test false test = rw test refl
    by_test true test =
        let inside : IsUnsignedIn 0 65535 word = accepts-Accepts false (parsers.Unsigned 0 65535) word test in
        absurd (refused (inside.0, omega (arith, inside.3)))

-- the number, as the getter has it, is the one that the word spells
pub number_of_value : {E : Type 0} (gives : Text → Result ℕ E → Type 0) → ((word : Text) (read : Result ℕ E) → gives word read → ParsesUnsigned 16 10 word read)
    → (word : Option Text) (number : Option ℕ) → (word ≡ None → number ≡ None) → ((t : Text) → word ≡ Some t → ReadsOne gives t number)
    → number ≡ option_and_then u16_in word
number_of_value gives parses None number none value = none refl
number_of_value gives parses (Some word) (Some n) none value =
    let read = parses word (Ok n) (value word refl) in
    number_is word n read.0 read.1
number_of_value gives parses (Some word) None none value =
    let refused = value word refl in
    no_number word (parses word (Err refused.0) refused.1)

-- the restart that a folder, a script, a word for the number and the flags make
abbrev named : Option Text → Option Text → Option Text → (workers strict : Bool) → Option Asked
named dir script word workers strict =
    option_and_then (λ dir. option_and_then (λ script. option_and_then (λ word. option_and_then (λ processors. Some (Restarts dir script processors workers strict))
    (u16_in word)) word) script) dir

values-named : (found : Found) → restart_of (rows_of found)
    ≡ named (first_value found (codes "folder")) (first_value found (codes "script")) (one_text found (codes "pes")) (is_on (codes "workers") (rows_of found))
    (is_on (codes "strict") (rows_of found))
values-named found = rw (first_value-rows found (codes "folder"), first_value-rows found (codes "script"), one_text-rows found (codes "pes")) refl

named_is : (dir script : Text) (word : Option Text) (number : Option ℕ) (workers strict : Bool) → number ≡ option_and_then u16_in word
    → option_and_then (λ processors. Some (Restarts dir script processors workers strict)) number ≡ named (Some dir) (Some script) word workers strict
named_is dir script None number workers strict n = rw n refl
named_is dir script (Some word) number workers strict n = rw n refl

-- where there is no folder, there is no restart
pub no_folder : (found : Found) → None ≡ first_value found (codes "folder") → None ≡ restart_of (rows_of found)
no_folder found d = rw (values-named found, ← d) refl

-- nor where there is no script
pub no_script : (found : Found) (dir : Text) → Some dir ≡ first_value found (codes "folder") → None ≡ first_value found (codes "script")
    → None ≡ restart_of (rows_of found)
no_script found dir d s = rw (values-named found, ← d, ← s) refl

-- and else the number decides
pub restart_of_values : (found : Found) (dir script : Text) (number : Option ℕ) (workers strict : Bool) → Some dir ≡ first_value found (codes "folder")
    → Some script ≡ first_value found (codes "script") → number ≡ option_and_then u16_in (one_text found (codes "pes"))
    → workers ≡ is_on (codes "workers") (rows_of found) → strict ≡ is_on (codes "strict") (rows_of found)
    → option_and_then (λ processors. Some (Restarts dir script processors workers strict)) number ≡ restart_of (rows_of found)
restart_of_values found dir script number workers strict d s n w t = rw (values-named found, ← d, ← s, ← w, ← t) (named_is dir script (one_text found (codes "pes")) number workers strict n)
