-- The state of a sum.
use Rattle.charmlet_model.specs.declared.state.State.{State}
use Rattle.charmlet_model.specs.declared.state.State.TheVariants as states
use Rattle.charmlet_kinds.specs.declared.sum.Sum.{Sum}

-- how many values it waits for, how many have come, their total, and the index that it goes to
abbrev pub state_of : Sum → State
state_of s = states.Sum s.want s.got s.total s.up
