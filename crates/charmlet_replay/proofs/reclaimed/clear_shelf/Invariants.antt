use Rattle.std.proofs.Common.{length}
use Rattle.charmlet_replay.proofs.Cleared.{IsClearing}
use Rattle.charmlet_replay.proofs.reclaimed.clear_shelf.Given as goal

-- some objects have gone into the stock
abbrev pub invariant-objects : goal.invariant-objects
invariant-objects g l = IsClearing l.fn.shelf l.shelf l.fn.stock l.stock

abbrev pub decreases-objects : goal.decreases-objects
decreases-objects g l = length l.shelf.records
