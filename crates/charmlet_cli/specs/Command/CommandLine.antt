-- What a command line asks for, by clap's meaning of its words.
use Rattle.std.specs.Prelude.{◌≡◌, ◌≢◌, ℕ, Bool, List, [], ◌∷◌, Option, Some, None, codes, pos, true, false, if◌then◌else◌, option_and_then, option_map}
use Rattle.std.specs.Option.{option_map_or}
use Rattle.std.specs.Str.{bytes_eq}
use Rattle.std.specs.Str.Parse.{digits_value, without_leading_plus}
use Rattle.clap.specs.Walk.{Row, Rule, Text, first_of, one_of}
use Rattle.clap.specs.Simple.{App, new_app, new_rule, on_top, subcommand_of, with_rule, with_subcommand}
use Rattle.clap.specs.Kinds.{Kinds, IsAmong, or_else}
use Rattle.clap.specs.Faults.{fault_of}
use Rattle.clap.specs.Values.{kind_of}
use Rattle.clap.specs.ValueTests.{is_unsigned_in}
use Rattle.clap.specs.declared.builder.action.ArgAction.TheVariants.{Set, SetTrue}
use Rattle.clap.specs.declared.builder.value_parser.ValueParser.TheVariants as parsers
use Rattle.clap.specs.declared.builder.command.Command.{Command as Parser}
use Rattle.clap.specs.declared.builder.command.Command.TheViews.{out-Command}
use Rattle.clap.specs.declared.error.Error.{Error}
use Rattle.clap.specs.declared.error.kind.ErrorKind.TheVariants.{MissingSubcommand, OutOfMemory}
use Rattle.charmlet_cli.specs.declared.command.Command.{Command}
use Rattle.charmlet_cli.specs.declared.command.Command.TheVariants.{Lab, Restart, Run, Show}
use Rattle.charmlet_cli.specs.declared.command.CommandError.{CommandError}
use Rattle.charmlet_cli.specs.declared.command.CommandError.TheVariants.{Memory, Line}

-- `do`: the next step on this one's value, or none where there is none
infixl 10 ◌>>=◌
abbrev pub ◌>>=◌ : {A B : Type 0} → Option A → (A → Option B) → Option B
o >>= f = option_and_then f o

-- a parser has an argument that its subcommands take too
abbrev pub has_globals : Parser → Bool
has_globals parser = (out-Command parser).has_globals

-- a word that has to be there
abbrev pub needed_word : Rule → Rule
needed_word rule = record rule { required = true; action = Some Set }

-- the word that names the script's file
abbrev pub script_word : Rule
script_word = record (new_rule (codes "script"))
    { value_names = 1; required = true; action = Some Set }

-- the word that names the folder of a store that is there
abbrev pub folder_word : Rule
folder_word = record (new_rule (codes "folder"))
    { value_names = 1; required = true; action = Some Set }

-- `--dir DIR`, which names the store's folder
abbrev pub dir_option : Rule
dir_option = record (new_rule (codes "dir")) {
  long = Some (codes "dir");
  value_names = 1;
  action = Some Set;
}

-- `--pes N`, a 16-bit number, which is 1 if the line doesn't have it
abbrev pub pes_option : Rule
pes_option = record (new_rule (codes "pes")) {
  long = Some (codes "pes");
  value_names = 1;
  action = Some Set;
  parser = Some (parsers.Signed (pos 0) (pos 65535));
  defaults = codes "1" ∷ [];
}

-- `--workers`
abbrev pub workers_flag : Rule
workers_flag = record (new_rule (codes "workers"))
    { long = Some (codes "workers"); action = Some SetTrue }

-- `--strict`
abbrev pub strict_flag : Rule
strict_flag = record (new_rule (codes "strict"))
    { long = Some (codes "strict"); action = Some SetTrue }

-- `run SCRIPT [--dir DIR] [--workers] [--strict]`
abbrev pub run_line : App
run_line =
    with_rule (with_rule
    (with_rule (with_rule (new_app (codes "run")) script_word) dir_option) workers_flag)
    strict_flag

-- `show DIR`
abbrev pub show_line : App
show_line = with_rule (new_app (codes "show")) folder_word

-- `restart DIR SCRIPT [--pes N] [--workers] [--strict]`
abbrev pub restart_line : App
restart_line =
    with_rule (with_rule
    (with_rule (with_rule
    (with_rule (new_app (codes "restart")) pes_option) workers_flag) strict_flag) folder_word)
    script_word

-- `lab SCRIPT`
abbrev pub lab_line : App
lab_line = with_rule (new_app (codes "lab")) script_word

-- `charmlet`, which needs a subcommand
abbrev pub charmlet_line : App
charmlet_line =
    with_subcommand (with_subcommand
    (with_subcommand (with_subcommand
    (on_top (λ top. record top { subcommand_required = true }) (new_app (codes "charmlet")))
    run_line.top) show_line.top) restart_line.top) lab_line.top

-- what is asked for: a run of a script, maybe with a folder for its store; a showing of the store
-- in a folder; a restart of the store in a folder, on a number of processors, with a script; or a
-- trial of a script's crashes. A run and a restart may be by workers, and strict: then they end
-- at the first refused line
pub data Asked : Type 0 where
  Runs : (script : Text) (dir : Option Text) (workers strict : Bool) → Asked
  Shows : (dir : Text) → Asked
  Restarts : (dir script : Text) (processors : ℕ) (workers strict : Bool) → Asked
  Tries : (script : Text) → Asked

-- a flag is on: its word is `true`
abbrev pub is_on : Text → List Row → Bool
is_on flag rows = option_map_or (λ word. bytes_eq word (codes "true")) (one_of flag rows) false

-- the run that a subcommand's values name
abbrev pub run_of : List Row → Option Asked
run_of rows =
    option_map
    (λ script. Runs script (first_of (codes "dir") rows) (is_on (codes "workers") rows)
    (is_on (codes "strict") rows))
    (first_of (codes "script") rows)

-- the showing that a subcommand's values name
abbrev pub show_of : List Row → Option Asked
show_of rows = option_map Shows (first_of (codes "folder") rows)

-- the 16-bit number that a word spells in decimal digits, before which a plus may stand
abbrev pub u16_in : Text → Option ℕ
u16_in word = if is_unsigned_in 0 65535 word then Some (digits_value 10 (without_leading_plus word))
    else None

-- the restart that a subcommand's values name; clap takes a minus off a zero
abbrev pub restart_of : List Row → Option Asked
restart_of rows = do
  dir ← first_of (codes "folder") rows
  script ← first_of (codes "script") rows
  word ← one_of (codes "pes") rows
  processors ← u16_in word
  Some (Restarts dir script processors (is_on (codes "workers") rows)
      (is_on (codes "strict") rows))

-- the laboratory's script that a subcommand's values name
abbrev pub lab_of : List Row → Option Asked
lab_of rows = option_map Tries (first_of (codes "script") rows)

-- what a subcommand and its values ask for
abbrev pub asked_by : Text × List Row → Option Asked
asked_by found =
    if bytes_eq found.0 (codes "run") then run_of found.1
    else (if bytes_eq found.0 (codes "show") then show_of found.1
    else (if bytes_eq found.0 (codes "restart") then restart_of found.1
    else (if bytes_eq found.0 (codes "lab") then lab_of found.1 else None)))

-- nothing is asked where clap finds a fault
abbrev pub unless_faulty : Kinds → Option Asked → Option Asked
unless_faulty [] answer = answer
unless_faulty (fault ∷ faults) answer = None

-- what the words ask for
unfoldable pub asked : List Text → Option Asked
asked words = unless_faulty (fault_of charmlet_line words)
    (option_and_then asked_by (subcommand_of charmlet_line words))

-- what a command asks for
abbrev pub asked_in : Command → Asked
asked_in (Run script dir workers strict) =
    Runs script.now (option_map (λ dir. dir.now) dir) workers strict
asked_in (Show dir) = Shows dir.now
asked_in (Restart dir script processors workers strict) =
    Restarts dir.now script.now processors workers strict
asked_in (Lab script) = Tries script.now

-- the words ask for the command
abbrev pub Asks : List Text → Command → Type 0
Asks words command = asked words ≡ Some (asked_in command)

-- why words ask for nothing: clap's faults, or, if it finds none, the missing subcommand
abbrev pub faults_of : List Text → Kinds
faults_of words = or_else (fault_of charmlet_line words) (MissingSubcommand ∷ [])

-- the words ask for no command, and the error tells why, ignoring lack of memory
abbrev pub AsksNothing : List Text → CommandError → Type 0
AsksNothing words Memory = Unit {0}
AsksNothing words (Line error) = (asked words ≡ None) × IsAmong (kind_of error) (faults_of words)

-- what clap's error becomes: lack of memory has no text
pub record IsErrorOf (error : Error) (answer : CommandError) : Type 0 where
  pub memory : kind_of error ≡ OutOfMemory → answer ≡ Memory
  pub line : kind_of error ≢ OutOfMemory → answer ≡ Line error
