use Rattle.std.proofs.Common.{◌≤◌}
use Rattle.charmlet_workers.specs.Working.{HasWorked}
use Rattle.charmlet_workers.proofs.runtime.Runtime.work.Given as goal

abbrev pub invariant-loop-turn : goal.invariant-loop-turn
invariant-loop-turn g l = HasWorked l.fn.seat l.seat l.count × (l.count ≤ l.turn)
