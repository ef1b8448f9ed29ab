use Rattle.charmlet_replayers.proofs.RepliesLemmas.OfEvents.{are-of-events}
use Rattle.charmlet_replayers.proofs.replies.laws.replies_are_of_events.Goals as goal

pub returns : goal.returns
returns c = are-of-events
