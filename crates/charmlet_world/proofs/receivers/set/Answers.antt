use Rattle.charmlet_world.proofs.Receiving.{receiver_changed}
use Rattle.charmlet_world.proofs.receivers.set.Goals as goal

pub returns-clause-changed : goal.returns-clause-changed
returns-clause-changed c = λ x y r at. receiver_changed x y r c.args.receiver c.args.table.now.entries c.args.index c.pair_mut-here.ensures.unique at
