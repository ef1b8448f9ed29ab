use Rattle.std.proofs.Common.{◌≡◌, replicate}
use Rattle.std.specs.Prelude.{true}
use Rattle.charmlet_world.proofs.client.client.mark_durable.Given as goal

abbrev pub invariant-loop : goal.invariant-loop
invariant-loop l = l.durable.items ≡ replicate l.counter true
