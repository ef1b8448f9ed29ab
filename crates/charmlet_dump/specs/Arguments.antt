-- What the words of a command line ask for.
use Rattle.std.specs.Prelude.{ℕ, ◌+◌, ◌*◌, ◌-◌, Bool, true, false, ◌&&◌, ◌||◌, is_some, nat_lt, ◌==◌, List, [], ◌∷◌, length, drop, take, codes, if◌then◌else◌, Option, Some, None, option_map, unwrap_or, Result, Ok, Err}
use Rattle.std.specs.Char.{is_ascii_digit}
use Rattle.std.specs.Str.{bytes_eq}
use Rattle.charmlet_model.specs.Texts.{Text}
use Rattle.charmlet_dump.specs.declared.arguments.Asked as askings
use Rattle.charmlet_dump.specs.declared.arguments.BadLine as lines
use Rattle.charmlet_dump.specs.declared.arguments.Request as requests
use Rattle.charmlet_dump.specs.declared.output.Form.{Form}
use Rattle.charmlet_dump.specs.declared.output.Form.TheVariants.{Plain, Json}

-- a dump of the store in this folder, on this number of processors, in this form
pub record Request : Type 0 where
  pub folder : Text
  pub processors : ℕ
  pub form : Form

-- why words ask for no dump; some name the word
pub data Bad : Type 0 where
  Help : Bad
  NoFolder : Bad
  TwoFolders : Text → Bad
  NoNumber : Bad
  BadNumber : Text → Bad
  UnknownOption : Text → Bad
  Repeated : Text → Bad

-- what the words so far ask for, and whether the number of processors comes next
pub record Asked : Type 0 where
  pub folder : Option Text
  pub processors : Option ℕ
  pub form : Option Form
  pub awaits : Bool

-- before the first word
abbrev pub nothing_asked : Asked
nothing_asked = record { folder = None; processors = None; form = None; awaits = false }

-- a number with one more decimal digit, if that has 16 bits
abbrev pub next_number : ℕ → ℕ → Option ℕ
next_number number digit =
    if is_ascii_digit digit && nat_lt (number * 10 + (digit - 48)) 65536
    then Some (number * 10 + (digit - 48)) else None

-- the number that digits after this one spell
abbrev pub number_after : Option ℕ → List ℕ → Option ℕ
number_after number [] = number
number_after None (digit ∷ digits) = None
number_after (Some number) (digit ∷ digits) = number_after (next_number number digit) digits

-- a decimal 16-bit number
abbrev pub number_of : Text → Option ℕ
number_of digits = if length digits == 0 then None else number_after (Some 0) digits

-- what is asked for with the number of processors that this word gives
abbrev pub with_number : Asked → Text → Option ℕ → Result Asked Bad
with_number asked word None = Err (BadNumber word)
with_number asked word (Some number) =
    Ok (record asked { processors = Some number; awaits = false })

-- the number of processors comes next, once
abbrev pub awaiting : Asked → Text → Result Asked Bad
awaiting asked word = if is_some asked.processors then Err (Repeated word)
    else Ok (record asked { awaits = true })

-- the JSON form, once
abbrev pub with_json : Asked → Text → Result Asked Bad
with_json asked word = if is_some asked.form then Err (Repeated word)
    else Ok (record asked { form = Some Json })

-- a folder, once
abbrev pub with_folder : Asked → Text → Result Asked Bad
with_folder asked word = if is_some asked.folder then Err (TwoFolders word)
    else Ok (record asked { folder = Some word })

-- the next step, if there is no fault so far
abbrev pub then_so : {A B : Type 0} → Result A Bad → (A → Result B Bad) → Result B Bad
then_so (Ok a) next = next a
then_so (Err bad) next = Err bad

-- one more word: the number that is awaited, an option, or the folder
abbrev pub asked_next : Asked → Text → Result Asked Bad
asked_next asked word =
    if asked.awaits then with_number asked word (number_of word)
    else if bytes_eq word (codes "--help") || bytes_eq word (codes "-h") then Err Help
    else if bytes_eq word (codes "--json") then with_json asked word
    else if bytes_eq word (codes "--pes") then awaiting asked word
    else if bytes_eq (take 6 word) (codes "--pes=") then then_so (awaiting asked word)
    (λ next. with_number next word (number_of (drop 6 word)))
    else if bytes_eq (take 1 word) (codes "-") then Err (UnknownOption word)
    else with_folder asked word

-- these words too
abbrev pub asked_all : Asked → List Text → Result Asked Bad
asked_all asked [] = Ok asked
asked_all asked (word ∷ words) = then_so (asked_next asked word) (λ next. asked_all next words)

-- of this folder, if there is one
abbrev pub requested : Asked → Option Text → Result Request Bad
requested asked None = Err NoFolder
requested asked (Some folder) = Ok (record {
  folder = folder;
  processors = unwrap_or asked.processors 1;
  form = unwrap_or asked.form Plain;
})

-- what all words ask for: one processor and the plain form, unless they say otherwise
abbrev pub finished : Asked → Result Request Bad
finished asked = if asked.awaits then Err NoNumber else requested asked asked.folder

-- the words after the program's name
abbrev pub arguments_of : List Text → Result Request Bad
arguments_of words = then_so (asked_all nothing_asked (drop 1 words)) finished

-- ---- the code's values

abbrev pub asked_in : askings.Asked → Asked
asked_in asked = record {
  folder = option_map (λ folder. folder.now) asked.folder;
  processors = asked.processors;
  form = asked.form;
  awaits = asked.awaits_number;
}

abbrev pub bad_in : lines.BadLine → Bad
bad_in lines.TheVariants.Help = Help
bad_in lines.TheVariants.NoFolder = NoFolder
bad_in (lines.TheVariants.TwoFolders word) = TwoFolders word.now
bad_in lines.TheVariants.NoNumber = NoNumber
bad_in (lines.TheVariants.BadNumber word) = BadNumber word.now
bad_in (lines.TheVariants.UnknownOption word) = UnknownOption word.now
bad_in (lines.TheVariants.Repeated word) = Repeated word.now

abbrev pub request_in : requests.Request → Request
request_in request = record {
  folder = request.folder.now;
  processors = request.processors;
  form = request.form;
}

abbrev pub asked_or_bad : Result askings.Asked lines.BadLine → Result Asked Bad
asked_or_bad (Ok asked) = Ok (asked_in asked)
asked_or_bad (Err bad) = Err (bad_in bad)

abbrev pub request_or_bad : Result requests.Request lines.BadLine → Result Request Bad
request_or_bad (Ok request) = Ok (request_in request)
request_or_bad (Err bad) = Err (bad_in bad)
