use Rattle.std.proofs.Common.{◌≡◌, [], drop}
use Rattle.charmlet_merge.proofs.Maps.{merged}
use Rattle.charmlet_merge.proofs.elements.elements_of.Given as goal

-- what is left brings the elements to their end
abbrev pub invariant-loop-replayer : goal.invariant-loop-replayer
invariant-loop-replayer g l = merged l.elements.entries (drop l.replayer-index l.replayers) ≡ merged [] l.replayers
