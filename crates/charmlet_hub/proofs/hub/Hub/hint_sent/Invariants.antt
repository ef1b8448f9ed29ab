use Rattle.std.proofs.Common.{◌≡◌}
use Rattle.charmlet_hub.proofs.hub.Hub.hint_sent.Given as goal

-- the hub is as it was
abbrev pub invariant-loop-place : goal.invariant-loop-place
invariant-loop-place g l = l.self ≡ l.fn.self
