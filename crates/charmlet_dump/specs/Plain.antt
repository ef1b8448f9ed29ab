-- The plain form of a dump.
use Rattle.std.specs.Prelude.{ℕ, ◌++◌, codes, Option, Some, None}
use Rattle.std.specs.Fmt.{decimal}
use Rattle.charmlet_model.specs.declared.kind.Kind.{Kind}
use Rattle.charmlet_model.specs.declared.kind.Kind.TheVariants as kinds
use Rattle.charmlet_model.specs.declared.names.Elem.{Elem}
use Rattle.charmlet_model.specs.declared.state.State.{State}
use Rattle.charmlet_model.specs.declared.state.State.TheVariants.{FirstCounter, Counter, Ring, Account, Sum, Tree, Tape}
use Rattle.charmlet_model.specs.declared.step.Answer.TheVariants as answers
use Rattle.charmlet_model.specs.KindVersion.{kind_of_version, number_of_version}
use Rattle.charmlet_model.specs.Row.{Item}
use Rattle.charmlet_model.specs.Texts.{Text, answer_text, elem_text, id_text, kind_text, words_text}
use Rattle.charmlet_dump.specs.Facts.{Fact, Store, Array, Element, Pending, Constructions, Client, Request, Refused}

-- a kind's name
abbrev pub kind_name : Kind → Text
kind_name kinds.Counter = codes "counter"
kind_name kinds.Ring = codes "ring"
kind_name kinds.Account = codes "account"
kind_name kinds.Sum = codes "sum"
kind_name kinds.Tree = codes "tree"
kind_name kinds.Tape = codes "tape"

-- the kind of an object, and its fields in their order, each after its name
abbrev pub plain_state : State → Text
plain_state (FirstCounter count) = codes "counter count " ++ decimal count
plain_state (Counter count peak) = codes "counter count " ++ decimal count
    ++ codes " peak " ++ decimal peak
plain_state (Ring next seen) = codes "ring next " ++ decimal next ++ codes " seen " ++ decimal seen
plain_state (Account balance) = codes "account balance " ++ decimal balance
plain_state (Sum want got total up) = codes "sum want " ++ decimal want ++ codes " got "
    ++ decimal got ++ codes " total " ++ decimal total ++ codes " up " ++ decimal up
plain_state (Tree depth) = codes "tree depth " ++ decimal depth
plain_state (Tape items) = codes "tape items" ++ words_text items

-- how many messages an element sent and received
abbrev pub plain_counts : (sent received : ℕ) → Text
plain_counts sent received =
    codes " sent " ++ decimal sent ++ codes " received " ++ decimal received

-- element A.I pe P sent S received R K F.., or element A.I none sent S received R if it isn't
-- there
abbrev pub plain_element : Elem → (home : ℕ) → Option State → (sent received : ℕ) → Text
plain_element elem home None sent received =
    codes "element " ++ elem_text elem ++ codes " none" ++ plain_counts sent received
plain_element elem home (Some state) sent received =
    codes "element " ++ elem_text elem ++ codes " pe " ++ decimal home
    ++ plain_counts sent received ++ codes " " ++ plain_state state

-- accepted, or replied W..
abbrev pub plain_item : Item → Text
plain_item None = codes "accepted"
plain_item (Some words) = codes "replied" ++ words_text words

-- the line of a fact
abbrev pub plain_text : Fact → Text
plain_text (Store generation events) =
    codes "store generation " ++ decimal generation ++ codes " events " ++ decimal events
plain_text (Array array kind_version) =
    codes "array " ++ decimal array ++ codes " kind " ++ kind_text (kind_of_version kind_version)
    ++ codes " version " ++ decimal (number_of_version kind_version) ++ codes " "
    ++ kind_name (kind_of_version kind_version)
plain_text (Element elem home kept) = plain_element elem home kept.state kept.sent kept.received
plain_text (Pending m) =
    codes "pending " ++ id_text m.id ++ codes " to " ++ elem_text m.to
    ++ codes " entry " ++ decimal m.entry ++ codes " words" ++ words_text m.words
plain_text (Constructions kind count) =
    codes "constructions " ++ decimal count ++ codes " kind " ++ kind_text kind ++ codes " "
    ++ kind_name kind
plain_text (Client client last) =
    codes "client " ++ decimal client ++ codes " last " ++ decimal last
plain_text (Request client number item) =
    codes "request " ++ decimal client ++ codes " " ++ decimal number ++ codes " "
    ++ plain_item item
plain_text (Refused refusal) = answer_text (answers.Refused refusal)
