use Rattle.charmlet_state_tests.specs.Pair.{IsPair}
use Rattle.charmlet_state_tests.proofs.tests.world.worlds.history.Given as goal

abbrev pub invariant-loop : goal.invariant-loop
invariant-loop g l = IsPair l.world l.plain
