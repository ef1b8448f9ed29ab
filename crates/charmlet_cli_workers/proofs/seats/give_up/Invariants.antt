use Rattle.std.proofs.Common.{◌≡◌, ◌++◌, length, map}
use Rattle.charmlet_leases.specs.Seats.Seats.{HeldSeat}
use Rattle.charmlet_workers.specs.declared.work.WorkerSlot.{WorkerSlot}
use Rattle.charmlet_cli_workers.proofs.seats.give_up.Given as goal

-- the seats in the list, and then those that are left
abbrev pub invariant-loop-slot : goal.invariant-loop-slot
invariant-loop-slot g l =
    (l.slot-iterator.rest.len ≡ length l.slot-iterator.rest.items)
    × (map (λ (h : HeldSeat). h.ids) l.seats.items ++ map (λ (s : WorkerSlot g.row.B.Denot). s.seat.ids) l.slot-iterator.rest.items
    ≡ map (λ (h : HeldSeat). h.ids) l.fn.seats.items ++ map (λ (s : WorkerSlot g.row.B.Denot). s.seat.ids) l.fn.slots.items)
