use Rattle.std.proofs.Common.{◌≡◌}
use Rattle.charmlet_model.specs.Unpacked.{numbers}
use Rattle.charmlet_reference.proofs.packed.numbers.Given as goal

abbrev pub invariant-loop-at : goal.invariant-loop-at
invariant-loop-at l = l.items.items ≡ numbers l.at l.bytes
