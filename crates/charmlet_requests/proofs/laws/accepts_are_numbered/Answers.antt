use Rattle.charmlet_requests.proofs.Rising.{accepts_are_numbered}
use Rattle.charmlet_requests.proofs.laws.accepts_are_numbered.Goals as goal

pub returns : goal.returns
returns c = accepts_are_numbered
