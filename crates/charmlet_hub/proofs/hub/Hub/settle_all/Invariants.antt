use Rattle.charmlet_hub.proofs.Endings.{HasSettled}
use Rattle.charmlet_hub.proofs.hub.Hub.settle_all.Given as goal

abbrev pub invariant-loop-i : goal.invariant-loop-i
invariant-loop-i g l = HasSettled l.initial.self l.self l.fn.shelves l.shelves l.i
