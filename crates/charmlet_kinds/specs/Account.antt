-- The state of an account.
use Rattle.charmlet_model.specs.declared.state.State.{State}
use Rattle.charmlet_model.specs.declared.state.State.TheVariants as states
use Rattle.charmlet_kinds.specs.declared.account.Account.{Account}

-- its balance
abbrev pub state_of : Account → State
state_of a = states.Account a.balance
