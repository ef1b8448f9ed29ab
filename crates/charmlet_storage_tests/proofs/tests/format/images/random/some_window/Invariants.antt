use Rattle.std.proofs.Common.{◌≤◌, All, IfSome, length}
use Rattle.charmlet_record.specs.Limits.{AreFewWords}
use Rattle.charmlet_storage_tests.proofs.tests.format.images.random.some_window.Given as goal

abbrev pub invariant-loop : goal.invariant-loop
invariant-loop g l = (length l.window ≤ l.counter) × All (λ item. IfSome item AreFewWords) l.window
