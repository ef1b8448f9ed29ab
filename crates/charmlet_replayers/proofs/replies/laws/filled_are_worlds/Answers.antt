use Rattle.charmlet_replayers.proofs.RepliesLemmas.Whole.{filled-are-worlds}
use Rattle.charmlet_replayers.proofs.replies.laws.filled_are_worlds.Goals as goal

pub returns : goal.returns
returns c = filled-are-worlds
