-- The JSON form of a dump.
use Rattle.std.specs.Prelude.{ℕ, List, [], ◌∷◌, ◌++◌, codes, Option, Some, None}
use Rattle.std.specs.Fmt.{decimal}
use Rattle.std.specs.List.{flat_map}
use Rattle.charmlet_model.specs.declared.message.Message.{Message}
use Rattle.charmlet_model.specs.declared.names.Elem.{Elem}
use Rattle.charmlet_model.specs.declared.names.MsgId.{MsgId}
use Rattle.charmlet_model.specs.declared.names.Origin as origins
use Rattle.charmlet_model.specs.declared.refusal.Refusal.{Refusal}
use Rattle.charmlet_model.specs.declared.refusal.Refusal.TheVariants.{Damaged}
use Rattle.charmlet_model.specs.declared.state.State.{State}
use Rattle.charmlet_model.specs.declared.state.State.TheVariants.{FirstCounter, Counter, Ring, Account, Sum, Tree, Tape}
use Rattle.charmlet_model.specs.KindVersion.{kind_of_version, number_of_version}
use Rattle.charmlet_model.specs.Refusal.{refusal_number}
use Rattle.charmlet_model.specs.Row.{Item}
use Rattle.charmlet_model.specs.Texts.{Text, half_text, kind_text, refusal_text}
use Rattle.charmlet_dump.specs.Facts.{Fact, Store, Array, Element, Pending, Constructions, Client, Request, Refused}
use Rattle.charmlet_dump.specs.Plain.{kind_name}

-- an element, by its array and its index
abbrev pub json_elem : Elem → Text
json_elem elem = codes "{\"array\":" ++ decimal elem.array ++ codes ",\"index\":"
    ++ decimal elem.index ++ codes "}"

-- who sent a message
abbrev pub json_origin : origins.Origin → Text
json_origin (origins.TheVariants.Client client) = codes "\"client\":" ++ decimal client
json_origin (origins.TheVariants.Element elem) = codes "\"element\":" ++ json_elem elem

-- the id of a message
abbrev pub json_id : MsgId → Text
json_id id = codes "{" ++ json_origin id.origin ++ codes ",\"number\":" ++ decimal id.number
    ++ codes "}"

-- each number after a comma
abbrev pub more_numbers : List ℕ → Text
more_numbers = flat_map (λ number. codes "," ++ decimal number)

-- an array of numbers
abbrev pub json_numbers : List ℕ → Text
json_numbers [] = codes "[]"
json_numbers (number ∷ numbers) = codes "[" ++ decimal number ++ more_numbers numbers ++ codes "]"

-- the kind of an object, and its fields in their order
abbrev pub json_state : State → Text
json_state (FirstCounter count) =
    codes "\"kind\":\"counter\",\"state\":{\"count\":" ++ decimal count ++ codes "}"
json_state (Counter count peak) =
    codes "\"kind\":\"counter\",\"state\":{\"count\":" ++ decimal count
    ++ codes ",\"peak\":" ++ decimal peak ++ codes "}"
json_state (Ring next seen) =
    codes "\"kind\":\"ring\",\"state\":{\"next\":" ++ decimal next
    ++ codes ",\"seen\":" ++ decimal seen ++ codes "}"
json_state (Account balance) =
    codes "\"kind\":\"account\",\"state\":{\"balance\":" ++ decimal balance ++ codes "}"
json_state (Sum want got total up) =
    codes "\"kind\":\"sum\",\"state\":{\"want\":" ++ decimal want
    ++ codes ",\"got\":" ++ decimal got ++ codes ",\"total\":" ++ decimal total
    ++ codes ",\"up\":" ++ decimal up ++ codes "}"
json_state (Tree depth) =
    codes "\"kind\":\"tree\",\"state\":{\"depth\":" ++ decimal depth ++ codes "}"
json_state (Tape items) =
    codes "\"kind\":\"tape\",\"state\":{\"items\":" ++ json_numbers items ++ codes "}"

-- how many messages an element sent and received
abbrev pub json_counts : (sent received : ℕ) → Text
json_counts sent received =
    codes ",\"sent\":" ++ decimal sent ++ codes ",\"received\":" ++ decimal received

-- the place, the counts, the kind and the state of an element; one that isn't there has the counts
abbrev pub json_record : (home : ℕ) → Option State → (sent received : ℕ) → Text
json_record home None sent received =
    codes "\"pe\":null" ++ json_counts sent received ++ codes ",\"kind\":null,\"state\":null"
json_record home (Some state) sent received =
    codes "\"pe\":" ++ decimal home ++ json_counts sent received ++ codes "," ++ json_state state

-- accepted, or replied with these words
abbrev pub json_item : Item → Text
json_item None = codes "\"told\":\"accepted\",\"reply\":null"
json_item (Some words) = codes "\"told\":\"replied\",\"reply\":" ++ json_numbers words

-- a pending message
abbrev pub json_message : Message → Text
json_message m =
    codes "\"pending\":" ++ json_id m.id ++ codes ",\"to\":" ++ json_elem m.to
    ++ codes ",\"entry\":" ++ decimal m.entry ++ codes ",\"words\":" ++ json_numbers m.words

-- the name of a refusal, and, if a half is damaged, that half and the offset
abbrev pub json_cause : Refusal → Text
json_cause (Damaged half offset) =
    codes "\"Damaged\",\"half\":" ++ half_text half ++ codes ",\"offset\":" ++ decimal offset
json_cause refusal = codes "\"" ++ refusal_text refusal ++ codes "\""

-- a refusal's number and its cause
abbrev pub json_refusal : Refusal → Text
json_refusal refusal =
    codes "\"refused\":" ++ decimal (refusal_number refusal) ++ codes ",\"name\":"
    ++ json_cause refusal

-- the line of a fact
abbrev pub json_text : Fact → Text
json_text (Store generation events) =
    codes "{\"store\":{\"generation\":" ++ decimal generation ++ codes ",\"events\":"
    ++ decimal events ++ codes "}}"
json_text (Array array kind_version) =
    codes "{\"array\":" ++ decimal array ++ codes ",\"kind\":\""
    ++ kind_name (kind_of_version kind_version) ++ codes "\",\"kind_number\":"
    ++ kind_text (kind_of_version kind_version) ++ codes ",\"version\":"
    ++ decimal (number_of_version kind_version) ++ codes "}"
json_text (Element elem home kept) =
    codes "{\"element\":" ++ json_elem elem ++ codes ","
    ++ json_record home kept.state kept.sent kept.received ++ codes "}"
json_text (Pending m) = codes "{" ++ json_message m ++ codes "}"
json_text (Constructions kind count) =
    codes "{\"constructions\":" ++ decimal count ++ codes ",\"kind\":\"" ++ kind_name kind
    ++ codes "\",\"kind_number\":" ++ kind_text kind ++ codes "}"
json_text (Client client last) =
    codes "{\"client\":" ++ decimal client ++ codes ",\"last\":" ++ decimal last ++ codes "}"
json_text (Request client number item) =
    codes "{\"request\":{\"client\":" ++ decimal client ++ codes ",\"number\":" ++ decimal number
    ++ codes "}," ++ json_item item ++ codes "}"
json_text (Refused refusal) = codes "{" ++ json_refusal refusal ++ codes "}"
