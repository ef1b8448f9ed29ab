use Rattle.charmlet_replayers.proofs.ReplayerLemmas.Combined.{joined_are_home}
use Rattle.charmlet_replayers.proofs.replayer.laws.merged_replayers_are_home.Goals as goal

pub returns : goal.returns
returns c = joined_are_home
