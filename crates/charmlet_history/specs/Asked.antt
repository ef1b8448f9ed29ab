-- Whose rows events change.
use Rattle.std.specs.Prelude.{ℕ, List, [], ◌∷◌, Option, Some, None}
use Rattle.charmlet_model.specs.declared.names.Origin.{Origin}
use Rattle.charmlet_model.specs.declared.names.Origin.TheVariants.{Client, Element}
use Rattle.charmlet_model.specs.declared.event.Event.{Event}
use Rattle.charmlet_model.specs.declared.event.Event.TheVariants.{Accept, Deliver}

-- the client that an origin names, if it names one
abbrev pub client_in : Origin → Option ℕ
client_in (Client c) = Some c
client_in (Element x) = None

-- the client whose row an event changes
abbrev pub asker : Event → Option ℕ
asker (Accept client number to entry words) = Some client
asker (Deliver id) = client_in id.origin

-- a client before others, if there is one
abbrev pub asker_before : Option ℕ → List ℕ → List ℕ
asker_before None askers = askers
asker_before (Some client) askers = client ∷ askers

-- the clients whose rows the events change, in their order
abbrev pub askers_of : List Event → List ℕ
askers_of [] = []
askers_of (e ∷ es) = asker_before (asker e) (askers_of es)
