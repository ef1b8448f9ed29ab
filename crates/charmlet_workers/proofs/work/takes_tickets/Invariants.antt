use Rattle.std.proofs.Common.{◌≡◌}
use Rattle.charmlet_workers.proofs.work.takes_tickets.Given as goal

-- the seat is as it was
abbrev pub invariant-loop-ticket : goal.invariant-loop-ticket
invariant-loop-ticket g l = l.seat ≡ l.fn.seat
