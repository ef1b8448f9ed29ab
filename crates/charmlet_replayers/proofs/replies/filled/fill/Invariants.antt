use Rattle.std.proofs.Common.{◌≡◌, drop}
use Rattle.charmlet_replayers.specs.Replies.Filled.{filled}
use Rattle.charmlet_replayers.proofs.replies.filled.fill.Given as goal

-- what is left, put into the rows that there are, makes what all of them make of the first rows
abbrev pub invariant-loop-reply : goal.invariant-loop-reply
invariant-loop-reply l = filled l.rows.entries (drop l.reply-index l.replies) ≡ filled l.fn.rows.entries l.replies
