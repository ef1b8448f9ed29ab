-- The records of a world, by what is kept of its elements.
use Rattle.std.specs.Prelude.{List, [], ◌∷◌, if◌then◌else◌, Option}
use Rattle.charmlet_model.specs.declared.names.Elem.{Elem}
use Rattle.charmlet_model.specs.declared.state.State.{State}
use Rattle.charmlet_model.specs.declared.state.Record.{Record}
use Rattle.charmlet_world.specs.declared.element.Element.{Element}
use Rattle.charmlet_world.specs.Seen.{has_record}

-- its record, with this state
abbrev pub record_with : Option State → Element → Record
record_with state e = record { state = state; sent = e.sent; received = e.received }

-- the records of the elements that have one, each with its state
abbrev pub records_from : (Elem → Option State) → List (Elem × Element) → List (Elem × Record)
records_from state [] = []
records_from state (e ∷ es) = if has_record e.1 then (e.0, record_with (state e.0) e.1)
    ∷ records_from state es else records_from state es
