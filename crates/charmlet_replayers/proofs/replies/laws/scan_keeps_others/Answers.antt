use Rattle.charmlet_replayers.proofs.RepliesLemmas.Kept.{keeps-others}
use Rattle.charmlet_replayers.proofs.replies.laws.scan_keeps_others.Goals as goal

pub returns : goal.returns
returns c = keeps-others
