use Rattle.std.proofs.Common.{◌≤◌, All, vec_len}
use Rattle.charmlet_record.specs.Limits.{IsShortSend}
use Rattle.charmlet_storage_tests.proofs.tests.format.records.random.some_sends.Given as goal

abbrev pub invariant-loop : goal.invariant-loop
invariant-loop g l = (vec_len l.sends ≤ l.counter) × All IsShortSend l.sends.items
