-- The state of a tree.
use Rattle.charmlet_model.specs.declared.state.State.{State}
use Rattle.charmlet_model.specs.declared.state.State.TheVariants as states
use Rattle.charmlet_kinds.specs.declared.tree.Tree.{Tree}

-- its depth
abbrev pub state_of : Tree → State
state_of t = states.Tree t.depth
