-- The state of a tape.
use Rattle.charmlet_model.specs.declared.state.State.{State}
use Rattle.charmlet_model.specs.declared.state.State.TheVariants as states
use Rattle.charmlet_kinds.specs.declared.tape.Tape.{Tape}

-- its items
abbrev pub state_of : Tape → State
state_of t = states.Tape t.items.items
