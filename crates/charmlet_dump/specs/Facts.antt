-- What a dump says of a world, fact by fact.
use Rattle.std.specs.Prelude.{ℕ, ◌+◌, ◌==◌, if◌then◌else◌, List, [], ◌∷◌, ◌++◌, option_copied}
use Rattle.std.specs.List.{flat_map}
use Rattle.charmlet_model.specs.declared.client.ClientRow.{ClientRow}
use Rattle.charmlet_model.specs.declared.kind_version.KindVersion.{KindVersion}
use Rattle.charmlet_model.specs.declared.kind.Kind.{Kind}
use Rattle.charmlet_model.specs.declared.message.Message.{Message}
use Rattle.charmlet_model.specs.declared.names.Elem.{Elem}
use Rattle.charmlet_model.specs.declared.refusal.Refusal.{Refusal}
use Rattle.charmlet_model.specs.declared.state.Record.{Record}
use Rattle.charmlet_model.specs.Core.{home}
use Rattle.charmlet_model.specs.Row.{Item, below}
use Rattle.charmlet_model.specs.World.{World}
use Rattle.charmlet_dump.specs.declared.lines.Fact as lines
use Rattle.charmlet_dump.specs.Constructing.{all_kinds, constructions_in}

-- a generation and how many events there were; an array, and the kind and version of its elements;
-- an element, its home and what is kept of it; a pending message; a kind, and how many pending
-- messages construct an element of it; a client and the number of its last request; a request of
-- its window and the reply, if there is one; why nothing is dumped
pub data Fact : Type 0 where
  Store : (generation events : ℕ) → Fact
  Array : ℕ → KindVersion → Fact
  Element : Elem → (home : ℕ) → Record → Fact
  Pending : Message → Fact
  Constructions : Kind → (count : ℕ) → Fact
  Client : (client last : ℕ) → Fact
  Request : (client number : ℕ) → Item → Fact
  Refused : Refusal → Fact

-- the fact of the code's value
abbrev pub fact_in : lines.Fact → Fact
fact_in (lines.TheVariants.Store generation events) = Store generation events
fact_in (lines.TheVariants.Array array kind_version) = Array array kind_version
fact_in (lines.TheVariants.Element elem home kept) = Element elem home kept.now
fact_in (lines.TheVariants.Pending message) = Pending message.now
fact_in (lines.TheVariants.Constructions kind count) = Constructions kind count
fact_in (lines.TheVariants.Client client last) = Client client last
fact_in (lines.TheVariants.Request client number reply) =
    Request client number (option_copied reply)
fact_in (lines.TheVariants.Refused refusal) = Refused refusal

-- the requests of a window, with the numbers after `below`
abbrev pub window_facts : (client below : ℕ) → List Item → List Fact
window_facts client below [] = []
window_facts client below (item ∷ items) =
    Request client (below + 1) item ∷ window_facts client (below + 1) items

-- an array
abbrev pub array_facts : ℕ × KindVersion → List Fact
array_facts e = Array e.0 e.1 ∷ []

-- an element, on this number of processors
abbrev pub element_facts : ℕ → Elem × Record → List Fact
element_facts processors e = Element e.0 (home e.0 processors) e.1 ∷ []

-- a pending message
abbrev pub pending_facts : Message → List Fact
pending_facts m = Pending m ∷ []

-- a kind, and how many pending messages construct an element of it, if any do
abbrev pub count_facts : Kind → (count : ℕ) → List Fact
count_facts kind count = if count == 0 then [] else Constructions kind count ∷ []

abbrev pub construction_facts : World → Kind → List Fact
construction_facts w kind = count_facts kind (constructions_in w kind)

-- a client, and the requests of its window
abbrev pub client_facts : ℕ × ClientRow → List Fact
client_facts e = Client e.0 e.1.last ∷ window_facts e.0 (below e.1) e.1.window

-- all of a world after this many events, from an image of this generation
abbrev pub world_facts : (processors generation events : ℕ) → World → List Fact
world_facts processors generation events w =
    Store generation events ∷ []
    ++ (flat_map array_facts w.manifest
    ++ (flat_map (element_facts processors) w.records
    ++ (flat_map pending_facts w.pending
    ++ (flat_map (construction_facts w) all_kinds ++ flat_map client_facts w.clients))))
