-- A whole script, of a run or of a restart, line by line, up to its first malformed line; and what
-- its reader answers.
use Rattle.std.specs.Prelude.{◌≡◌, ◌≢◌, ℕ, Bool, false, true, ◌+◌, ◌==◌, ◌&&◌, not, List, [], ◌∷◌, ◌++◌, All, length, take, is_none, Option, Some, None, Result, Ok, Err, if◌then◌else◌, nat_lt, nat_le}
use Rattle.std.specs.List.{list_any}
use Rattle.std.specs.Option.{option_map_or}
use Rattle.std.specs.IoError.{error_kind}
use Rattle.std.specs.declared.io.Error.{Error}
use Rattle.std.specs.declared.io.ErrorKind.TheVariants.{OutOfMemory, Interrupted}
use Rattle.charmlet_model.specs.declared.step.Step.TheVariants.{Deliver}
use Rattle.charmlet_model.specs.Texts.{Text}
use Rattle.charmlet_script.specs.declared.error.LineFault.{LineFault}
use Rattle.charmlet_script.specs.declared.error.LineFault.TheVariants as faults
use Rattle.charmlet_script.specs.declared.error.ReadError.{ReadError}
use Rattle.charmlet_script.specs.declared.error.ReadError.TheVariants as errors
use Rattle.charmlet_script.specs.declared.script.ArrayLine.{ArrayLine}
use Rattle.charmlet_script.specs.declared.script.HandlerLine.{HandlerLine}
use Rattle.charmlet_script.specs.declared.script.Line.{Line}
use Rattle.charmlet_script.specs.declared.script.Line.TheVariants as lines
use Rattle.charmlet_script.specs.declared.runner.Runner.{Runner}
use Rattle.charmlet_script.specs.declared.runner.Runner.TheVariants.{Workers}
use Rattle.charmlet_script.specs.declared.draft.Purpose.{Purpose}
use Rattle.charmlet_script.specs.declared.line.Item.{Item}
use Rattle.charmlet_script.specs.declared.line.Item.TheVariants as items
use Rattle.charmlet_script.specs.Script.{Contents, RestartContents, for_restart, no_lines}
use Rattle.charmlet_script.specs.Line.{◌>>=◌, is_empty, item_of, parts_of}

-- ---- what a reader of one line answers

-- nothing was spelled, ignoring lack of memory
abbrev pub IsNotSpelled : {A : Type 0} → LineFault → Option A → Type 0
IsNotSpelled faults.Memory spelled = Unit {0}
IsNotSpelled faults.Malformed spelled = spelled ≡ None

-- it answers what was spelled, ignoring lack of memory
abbrev pub Spells : {A : Type 0} → Result A LineFault → Option A → Type 0
Spells (Ok x) spelled = spelled ≡ Some x
Spells (Err fault) spelled = IsNotSpelled fault spelled

-- it leaves what was spelled, ignoring lack of memory
abbrev pub LeavesLines : {A : Type 0} → Result A LineFault → Contents → Option Contents → Type 0
LeavesLines (Ok x) new spelled = spelled ≡ Some new
LeavesLines (Err fault) new spelled = IsNotSpelled fault spelled

-- ---- the lines of a script

-- the greatest length of a script, in bytes
abbrev pub max_length : ℕ
max_length = 1048576

-- what stands past a length counts as one byte that no line may hold
unfoldable pub within : ℕ → Text → Text
within most bytes = if nat_le (length bytes) most then bytes else take most bytes ++ 255 ∷ []

-- the lines end with a line feed, which the last may lack
abbrev pub lines_of : Text → List Text
lines_of = parts_of 10

-- an array has a line
abbrev pub has_array : ℕ → List ArrayLine → Bool
has_array array = list_any (λ other. other.array == array)

-- an array line stands in the header of a run's script, before the other lines, once for an array,
-- and at most 64 times
abbrev pub may_add : Purpose → Contents → ArrayLine → Bool
may_add purpose script line =
    purpose.describes_store && (is_empty script.lines
    && (nat_lt (length script.arrays) 64 && not (has_array line.array script.arrays)))

-- the script with one more array, if it may stand there
unfoldable pub with_array : Purpose → Contents → ArrayLine → Option Contents
with_array purpose script line =
    if may_add purpose script line then Some (record script { arrays = script.arrays ++ line ∷ [] })
    else None

-- a `pes` line, which gives the number of processors, stands in the header of a run's script,
-- before the other lines, once
abbrev pub may_declare : Purpose → Contents → Bool
may_declare purpose script = purpose.describes_store
    && (is_empty script.lines && is_none script.declared_processors)

-- the script with its number of processors, if that may stand there
unfoldable pub with_processors : Purpose → Contents → ℕ → Option Contents
with_processors purpose script processors =
    if may_declare purpose script then Some
    (record script { declared_processors = Some processors }) else None

-- the script with one more handler: its line stands in a header, before the other lines
unfoldable pub with_handler : Contents → HandlerLine → Option Contents
with_handler script line = if is_empty script.lines
    then Some (record script { handlers = script.handlers ++ line ∷ [] }) else None

-- a line may follow the header: where workers deliver, a `deliver` line may not
abbrev pub may_follow : Runner → Line → Bool
may_follow Workers (lines.Step (Deliver processor id)) = false
may_follow runner line = true

-- each line may follow the header
abbrev pub AreFor : Runner → List Line → Type 0
AreFor runner = All (λ line. may_follow runner line ≡ true)

-- the script with what a line spells, if it may stand there
unfoldable pub with_item : Purpose → Contents → Item → Option Contents
with_item purpose script items.Skipped = Some script
with_item purpose script (items.Processors processors) = with_processors purpose script processors
with_item purpose script (items.Array line) = with_array purpose script line
with_item purpose script (items.Handler line) = with_handler script line
with_item purpose script (items.Line line) = if may_follow purpose.runner line
    then Some (record script { lines = script.lines ++ line ∷ [] }) else None

-- the script with the next line, unless that line is malformed
unfoldable pub with_line : Purpose → Contents → Text → Option Contents
with_line purpose script line = item_of line >>= with_item purpose script

-- the script with the lines from this number on, or the number of the first malformed one
unfoldable pub with_lines : Purpose → Contents → ℕ → List Text → Result Contents ℕ
with_lines purpose script number [] = Ok script
with_lines purpose script number (line ∷ lines) =
    option_map_or (λ next. with_lines purpose next (number + 1) lines)
    (with_line purpose script line) (Err number)

-- an item is an array
abbrev pub is_array : Item → Bool
is_array (items.Array line) = true
is_array _ = false

-- a line spells an array
abbrev pub is_array_line : Text → Bool
is_array_line line = option_map_or is_array (item_of line) false

-- what the lines of a run's script spell: it, or the number of the first malformed line, which is 1
-- where none is an array line
unfoldable pub lines_spell : Runner → List Text → Result Contents ℕ
lines_spell runner lines = if list_any is_array_line lines
    then with_lines (record { describes_store = true; runner = runner }) no_lines 1 lines else Err 1

-- the script of a run that the bytes spell, or the number of the first malformed line
abbrev pub script_of : Runner → Text → Result Contents ℕ
script_of runner bytes = lines_spell runner (lines_of (within max_length bytes))

-- what a script that was spelled holds for a restart
abbrev pub restart_in : Result Contents ℕ → Result RestartContents ℕ
restart_in (Ok script) = Ok (for_restart script)
restart_in (Err number) = Err number

-- what the lines of a restart's script spell: it, or the number of the first malformed line
unfoldable pub restart_lines_spell : Runner → List Text → Result RestartContents ℕ
restart_lines_spell runner lines =
    restart_in (with_lines (record { describes_store = false; runner = runner }) no_lines 1 lines)

-- the script of a restart that the bytes spell, or the number of the first malformed line
abbrev pub restart_script_of : Runner → Text → Result RestartContents ℕ
restart_script_of runner bytes = restart_lines_spell runner (lines_of (within max_length bytes))

-- ---- what a reader of a script answers

-- it answers what the bytes spell, ignoring lack of memory and a failed read
abbrev pub Answers : {A : Type 0} → Result A ReadError → Result A ℕ → Type 0
Answers (Ok script) spelled = spelled ≡ Ok script
Answers (Err (errors.Malformed number)) spelled = spelled ≡ Err number
Answers (Err errors.Memory) spelled = Unit {0}
Answers (Err (errors.Failed error)) spelled = Unit {0}

-- a failed read is neither lack of memory, which has its own error, nor an interruption, after
-- which it goes on
abbrev pub TellsFailure : ReadError → Type 0
TellsFailure (errors.Failed error) = (error_kind error ≢ OutOfMemory)
    × (error_kind error ≢ Interrupted)
TellsFailure _ = Unit {0}

-- nothing was read, and no line is named
abbrev pub IsUnread : ReadError → Type 0
IsUnread (errors.Malformed number) = ⊥
IsUnread errors.Memory = Unit {0}
IsUnread (errors.Failed error) = TellsFailure (errors.Failed error)

-- what a failed read is answered by
pub record IsErrorOf (error : Error) (answer : ReadError) : Type 0 where
  pub memory : error_kind error ≡ OutOfMemory → answer ≡ errors.Memory
  pub failed : error_kind error ≢ OutOfMemory → answer ≡ errors.Failed error
