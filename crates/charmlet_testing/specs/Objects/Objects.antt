-- The state of an object of any kind.
use Rattle.charmlet_model.specs.declared.state.State.{State}
use Rattle.charmlet_kinds.specs.Account as accounts
use Rattle.charmlet_kinds.specs.Counter as counters
use Rattle.charmlet_kinds.specs.Ring as rings
use Rattle.charmlet_kinds.specs.Sum as sums
use Rattle.charmlet_kinds.specs.Tape as tapes
use Rattle.charmlet_kinds.specs.Tree as trees
use Rattle.charmlet_testing.specs.declared.objects.objects.AnyObject.{AnyObject}
use Rattle.charmlet_testing.specs.declared.objects.objects.AnyObject.TheVariants.{Counter, Ring, Account, Sum, Tree, Tape}

-- that of the object which it is
abbrev pub state_of : AnyObject → State
state_of (Counter object) = counters.state_of object
state_of (Ring object) = rings.state_of object
state_of (Account object) = accounts.state_of object
state_of (Sum object) = sums.state_of object
state_of (Tree object) = trees.state_of object
state_of (Tape object) = tapes.state_of object
