use Rattle.std.proofs.Common.{◌≡◌, take}
use Rattle.charmlet_model.proofs.window.Window.copy.Given as goal

-- the items so far are copied
abbrev pub invariant-loop-place : goal.invariant-loop-place
invariant-loop-place l = l.copy ≡ take l.place l.self
