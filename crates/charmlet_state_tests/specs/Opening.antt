-- A small world in which much has happened already.
use Rattle.std.specs.Prelude.{ℕ, List, [], ◌∷◌, Some, None}
use Rattle.charmlet_model.specs.declared.names.Elem.{Elem}
use Rattle.charmlet_model.specs.declared.names.Origin.{Origin}
use Rattle.charmlet_model.specs.declared.names.Origin.TheVariants.{Client, Element}
use Rattle.charmlet_model.specs.declared.message.Message.{Message}
use Rattle.charmlet_model.specs.declared.kind_version.KindVersion.{KindVersion}
use Rattle.charmlet_model.specs.declared.kind_version.KindVersion.TheVariants as kind_versions
use Rattle.charmlet_model.specs.declared.state.Record.{Record}
use Rattle.charmlet_model.specs.declared.state.State.TheVariants.{Counter}
use Rattle.charmlet_model.specs.declared.client.ClientRow.{ClientRow}
use Rattle.charmlet_model.specs.World.{World}

abbrev pub array_versions : List (ℕ × KindVersion)
array_versions = (0, kind_versions.Counter) ∷ (1, kind_versions.Tree) ∷ []

-- an element of the counters
abbrev pub counter_at : ℕ → Elem
counter_at index = record { array = 0; index = index }

-- two counters that are there, and between them one that is no longer there and has counts
abbrev pub records : List (Elem × Record)
records =
    (counter_at 0, record { state = Some (Counter 5 5); sent = 0; received = 2 })
    ∷ (counter_at 1, record { state = None; sent = 1; received = 3 })
    ∷ (counter_at 5, record { state = Some (Counter 7 9); sent = 2; received = 1 }) ∷ []

abbrev pub message : Origin → ℕ → ℕ → ℕ → List ℕ → Message
message origin number index entry words = record {
  id = record { origin = origin; number = number };
  to = counter_at index;
  entry = entry;
  words = words;
}

-- two requests, and between them a message that waits for its receiver
abbrev pub pending : List Message
pending = message (Client 7) 2 0 4 (3 ∷ []) ∷ message (Element (counter_at 5)) 2 1 0 []
    ∷ message (Client 8) 2 5 4 [] ∷ []

-- a client with two requests, the first with its reply, and one with a full window, whose first
-- request has none
abbrev pub clients : List (ℕ × ClientRow)
clients =
    (7, record { last = 2; window = Some (5 ∷ []) ∷ None ∷ [] })
    ∷ (
      8,
      record {
        last = 9;
        window = None ∷ Some (3 ∷ []) ∷ Some [] ∷ Some [] ∷ Some [] ∷ Some []
            ∷ Some [] ∷ Some (9 ∷ []) ∷ [];
      },
    ) ∷ []

abbrev pub opening_world : World
opening_world = record {
  manifest = array_versions;
  records = records;
  pending = pending;
  clients = clients;
}
