use Rattle.std.proofs.Common.{◌≡◌, [], ◌∷◌, Some, None, replicate}
use Rattle.charmlet_state_tests.proofs.tests.history.opening.full_window.Given as goal

abbrev pub invariant-loop : goal.invariant-loop
invariant-loop l = l.window ≡ None ∷ Some (3 ∷ []) ∷ replicate l.counter (Some [])
