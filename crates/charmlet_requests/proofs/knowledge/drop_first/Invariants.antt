use Rattle.std.proofs.Common.{◌≡◌, ◌≤◌, drop, length}
use Rattle.charmlet_requests.proofs.knowledge.drop_first.Given as goal

abbrev pub invariant-loop : goal.invariant-loop
invariant-loop l = (l.window ≡ drop l.counter l.initial.window) × (l.end ≤ length l.initial.window)
