use Rattle.std.proofs.Common.{◌≡◌, take}
use Rattle.charmlet_lab.proofs.same.is_same_window.Given as goal

-- the replies so far are the same
abbrev pub invariant-loop-place : goal.invariant-loop-place
invariant-loop-place l = take l.place l.one ≡ take l.place l.other
