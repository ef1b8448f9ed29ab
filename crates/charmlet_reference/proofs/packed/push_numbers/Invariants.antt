use Rattle.std.proofs.Common.{◌≡◌, ◌++◌, take}
use Rattle.charmlet_pup.specs.Fields.{flat_words}
use Rattle.charmlet_reference.proofs.packed.push_numbers.Given as goal

abbrev pub invariant-loop-number : goal.invariant-loop-number
invariant-loop-number l = l.into.items ≡ l.initial.into.items ++ flat_words (take l.number-index l.numbers)
