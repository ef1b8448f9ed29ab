use Rattle.charmlet_replayers.proofs.ReplayerLemmas.Merged.{merged-are-opened}
use Rattle.charmlet_replayers.proofs.replayer.laws.merged_maps_are_opened.Goals as goal

pub returns : goal.returns
returns c = merged-are-opened
