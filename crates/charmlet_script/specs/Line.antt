-- One line of a script: its words, and what they spell.
use Rattle.std.specs.Prelude.{ℕ, Bool, true, not, ◌==◌, ◌&&◌, ◌∷◌, [], ◌^◌, List, Option, Some, None, option_and_then, if◌then◌else◌, nat_lt, nat_le, length, codes, filter}
use Rattle.std.specs.Char.{is_ascii_digit}
use Rattle.std.specs.List.{slice_split, list_all}
use Rattle.std.specs.Str.{bytes_eq}
use Rattle.std.specs.Str.Parse.{digits_value}
use Rattle.charmlet_model.specs.declared.kind.Kind.{Kind}
use Rattle.charmlet_model.specs.declared.names.MsgId.{MsgId}
use Rattle.charmlet_model.specs.declared.names.Origin.TheVariants.{Client, Element}
use Rattle.charmlet_model.specs.declared.step.Step.{Step}
use Rattle.charmlet_model.specs.declared.step.Step.TheVariants.{Request, Status, Deliver, Move, Flush, Checkpoint}
use Rattle.charmlet_model.specs.Kind.{numbered_kind}
use Rattle.charmlet_model.specs.Texts.{Text}
use Rattle.charmlet_script.specs.declared.script.ArrayLine.{ArrayLine}
use Rattle.charmlet_script.specs.declared.script.HandlerLine.{HandlerLine}
use Rattle.charmlet_script.specs.declared.script.Line.{Line}
use Rattle.charmlet_script.specs.declared.script.Line.TheVariants as lines
use Rattle.charmlet_script.specs.declared.line.Item.{Item}
use Rattle.charmlet_script.specs.declared.line.Item.TheVariants as items
use Rattle.charmlet_script.specs.Name.{name_of}

-- `do`: the next step on this one's value, or none where there is none
infixl 10 ◌>>=◌
abbrev pub ◌>>=◌ : {A B : Type 0} → Option A → (A → Option B) → Option B
o >>= f = option_and_then f o

-- ---- words

-- no item is there
abbrev pub is_empty : {A : Type 0} → List A → Bool
is_empty xs = length xs == 0

-- the parts of a text between two bytes of this value
abbrev pub parts_of : ℕ → Text → List Text
parts_of separator = slice_split (λ b. b == separator)

-- the words of a line: its runs of bytes other than a space
abbrev pub words_of : Text → List Text
words_of line = filter (λ word. not (is_empty word)) (parts_of 32 line)

-- a decimal number of that many bits; leading zeros are allowed
unfoldable pub number_of : ℕ → Text → Option ℕ
number_of bits word =
    if list_all is_ascii_digit word
    && (nat_lt 0 (length word) && nat_lt (digits_value 10 word) (2 ^ bits))
    then Some (digits_value 10 word) else None

-- each word a 64-bit number
unfoldable pub numbers_of : List Text → Option (List ℕ)
numbers_of [] = Some []
numbers_of (word ∷ words) = do
  n ← number_of 64 word
  ns ← numbers_of words
  Some (n ∷ ns)

-- a 32-bit number up to this limit
unfoldable pub count_up_to : ℕ → Text → Option ℕ
count_up_to most word = do
  n ← number_of 32 word
  if nat_le n most then Some n else None

-- a kind, by its number
unfoldable pub kind_of : Text → Option Kind
kind_of word = do
  n ← number_of 16 word
  numbered_kind n

-- C.N, the id of a client's message
unfoldable pub client_id : List Text → Option MsgId
client_id (client ∷ number ∷ []) = do
  c ← number_of 32 client
  n ← number_of 64 number
  Some (record { origin = Client c; number = n })
client_id _ = None

-- A.I.N, the id of an element's message
unfoldable pub element_id : List Text → Option MsgId
element_id (array ∷ index ∷ number ∷ []) = do
  a ← number_of 16 array
  i ← number_of 64 index
  n ← number_of 64 number
  Some (record { origin = Element (record { array = a; index = i }); number = n })
element_id _ = None

-- a message id: c and C.N, or e and A.I.N
unfoldable pub id_of : Text → Option MsgId
id_of [] = None
id_of (first ∷ rest) =
    if first == 99 then client_id (parts_of 46 rest)
    else (if first == 101 then element_id (parts_of 46 rest) else None)

-- ---- lines

-- what follows `array`: A K
unfoldable pub array_of : List Text → Option ArrayLine
array_of (array ∷ kind ∷ []) = do
  a ← number_of 16 array
  k ← kind_of kind
  Some (record { array = a; kind = k })
array_of _ = None

-- what follows `pes`: N
unfoldable pub pes_of : List Text → Option ℕ
pes_of (processors ∷ []) = number_of 16 processors
pes_of _ = None

-- what follows `handler`: NAME A E
unfoldable pub handler_of : List Text → Option HandlerLine
handler_of (name ∷ array ∷ entry ∷ []) = do
  n ← name_of name
  a ← number_of 16 array
  e ← number_of 16 entry
  Some (record { name = n; array = a; entry = e })
handler_of _ = None

-- what follows `supply`: K N, at most 10,000 blanks
unfoldable pub supply_of : List Text → Option Line
supply_of (kind ∷ count ∷ []) = do
  k ← kind_of kind
  n ← count_up_to 10000 count
  Some (lines.Supply k n)
supply_of _ = None

-- what follows `drain`: N, at most 1,000,000 deliveries
unfoldable pub drain_of : List Text → Option Line
drain_of (count ∷ []) = do
  n ← count_up_to 1000000 count
  Some (lines.Drain n)
drain_of _ = None

-- what follows `state`: A I
unfoldable pub state_of : List Text → Option Line
state_of (array ∷ index ∷ []) = do
  a ← number_of 16 array
  i ← number_of 64 index
  Some (lines.State (record { array = a; index = i }))
state_of _ = None

-- what follows `pending`: nothing
unfoldable pub pending_of : List Text → Option Line
pending_of [] = Some lines.Pending
pending_of _ = None

-- what follows `census`: nothing
unfoldable pub census_of : List Text → Option Line
census_of [] = Some lines.Census
census_of _ = None

-- what follows `call`: C N NAME I W..
unfoldable pub call_of : List Text → Option Line
call_of (client ∷ number ∷ name ∷ index ∷ payload) = do
  c ← number_of 32 client
  n ← number_of 64 number
  handler ← name_of name
  i ← number_of 64 index
  words ← numbers_of payload
  Some (lines.Call c n handler i words)
call_of _ = None

-- what follows `req`: C N A I E W..
unfoldable pub request_of : List Text → Option Step
request_of (client ∷ number ∷ array ∷ index ∷ entry ∷ payload) = do
  c ← number_of 32 client
  n ← number_of 64 number
  a ← number_of 16 array
  i ← number_of 64 index
  e ← number_of 16 entry
  words ← numbers_of payload
  Some (Request c n (record { array = a; index = i }) e words)
request_of _ = None

-- what follows `status`: C N
unfoldable pub status_of : List Text → Option Step
status_of (client ∷ number ∷ []) = do
  c ← number_of 32 client
  n ← number_of 64 number
  Some (Status c n)
status_of _ = None

-- what follows `deliver`: PE ID
unfoldable pub deliver_of : List Text → Option Step
deliver_of (processor ∷ id ∷ []) = do
  p ← number_of 16 processor
  m ← id_of id
  Some (Deliver p m)
deliver_of _ = None

-- what follows `move`: A I PE
unfoldable pub move_of : List Text → Option Step
move_of (array ∷ index ∷ processor ∷ []) = do
  a ← number_of 16 array
  i ← number_of 64 index
  p ← number_of 16 processor
  Some (Move (record { array = a; index = i }) p)
move_of _ = None

-- what follows `flush`: nothing
unfoldable pub flush_of : List Text → Option Step
flush_of [] = Some Flush
flush_of _ = None

-- what follows `checkpoint`: nothing
unfoldable pub checkpoint_of : List Text → Option Step
checkpoint_of [] = Some Checkpoint
checkpoint_of _ = None

-- the step that a first word and the words after it spell
unfoldable pub step_of : Text → List Text → Option Step
step_of name words =
    if bytes_eq name (codes "req") then request_of words
    else (if bytes_eq name (codes "status") then status_of words
    else (if bytes_eq name (codes "deliver") then deliver_of words
    else (if bytes_eq name (codes "move") then move_of words
    else (if bytes_eq name (codes "flush") then flush_of words
    else (if bytes_eq name (codes "checkpoint") then checkpoint_of words else None)))))

-- the line after the header that a first word and the words after it spell
unfoldable pub line_of : Text → List Text → Option Line
line_of name words =
    if bytes_eq name (codes "supply") then supply_of words
    else (if bytes_eq name (codes "drain") then drain_of words
    else (if bytes_eq name (codes "state") then state_of words
    else (if bytes_eq name (codes "pending") then pending_of words
    else (if bytes_eq name (codes "census") then census_of words
    else (if bytes_eq name (codes "call") then call_of words
    else (step_of name words >>= λ step. Some (lines.Step step)))))))

-- what words spell
unfoldable pub spelled_by : List Text → Option Item
spelled_by [] = None
spelled_by (name ∷ words) =
    if bytes_eq name (codes "array") then (array_of words >>= λ line. Some (items.Array line))
    else (if bytes_eq name (codes "pes")
    then (pes_of words >>= λ processors. Some (items.Processors processors))
    else (if bytes_eq name (codes "handler")
    then (handler_of words >>= λ line. Some (items.Handler line))
    else (line_of name words >>= λ line. Some (items.Line line))))

-- an empty line and a comment are skipped
abbrev pub is_skipped : Text → Bool
is_skipped [] = true
is_skipped (first ∷ rest) = first == 35

-- what a line spells, which has to be ASCII
unfoldable pub item_of : Text → Option Item
item_of line =
    if list_all (λ b. nat_lt b 128) line
    then (if is_skipped line then Some items.Skipped else spelled_by (words_of line)) else None
