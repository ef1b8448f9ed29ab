use Rattle.charmlet_replayers.proofs.ReplayerLemmas.StopLoop.{IsUpTo}
use Rattle.charmlet_replayers.proofs.replayer.stops.stop_of_replayers.Given as goal

abbrev pub invariant-loop-replayer : goal.invariant-loop-replayer
invariant-loop-replayer g l = IsUpTo l.replayers l.replayer-index l.first
