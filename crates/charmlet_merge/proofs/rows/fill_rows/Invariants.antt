use Rattle.std.proofs.Common.{◌≡◌, drop}
use Rattle.charmlet_replayers.specs.Replies.Filled.{filled}
use Rattle.charmlet_merge.proofs.AllReplies.{replies_in}
use Rattle.charmlet_merge.proofs.rows.fill_rows.Given as goal

-- what is left, put into the rows that there are, makes what all of them make of the first rows
abbrev pub invariant-loop-replayer : goal.invariant-loop-replayer
invariant-loop-replayer g l = filled l.rows.entries (replies_in (drop l.replayer-index l.replayers)) ≡ filled l.fn.rows.entries (replies_in l.replayers)
