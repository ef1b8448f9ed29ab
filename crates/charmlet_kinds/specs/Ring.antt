-- The state of a ring's element.
use Rattle.charmlet_model.specs.declared.state.State.{State}
use Rattle.charmlet_model.specs.declared.state.State.TheVariants as states
use Rattle.charmlet_kinds.specs.declared.ring.Ring.{Ring}

-- the index of the next element, and how many tokens this one has seen
abbrev pub state_of : Ring → State
state_of r = states.Ring r.next r.seen
