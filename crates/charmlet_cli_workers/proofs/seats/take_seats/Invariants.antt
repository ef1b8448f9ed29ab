use Rattle.std.proofs.Common.{◌≡◌, [], map}
use Rattle.std.specs.List.{AllByRecursion}
use Rattle.charmlet_workers.specs.declared.work.WorkerSlot.{WorkerSlot}
use Rattle.charmlet_cli_workers.proofs.seats.take_seats.Given as goal

-- the seats so far have no ids
abbrev pub invariant-loop-processor : goal.invariant-loop-processor
invariant-loop-processor g l =
    AllByRecursion (λ ids. ids ≡ []) (map (λ (s : WorkerSlot g.row.B.Denot). s.seat.ids) l.slots.items)
    × (l.seats.items ≡ l.fn.seats.items)
