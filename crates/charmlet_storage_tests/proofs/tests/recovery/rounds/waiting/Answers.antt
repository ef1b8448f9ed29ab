use Rattle.std.proofs.Common.{rules}
use Rattle.std.specs.List.Sorted.{IsStrictlySortedBy}
use Rattle.charmlet_storage_tests.proofs.tests.recovery.rounds.waiting.Goals as goal

pub of-requires-clause-elements : goal.of-requires-clause-elements
unfolding IsStrictlySortedBy
of-requires-clause-elements c = search rules

pub of-requires-clause-rows : goal.of-requires-clause-rows
unfolding IsStrictlySortedBy
of-requires-clause-rows c = search rules
