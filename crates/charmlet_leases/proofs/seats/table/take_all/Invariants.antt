use Rattle.std.proofs.Common.{◌≡◌, List, length, map, vec_len}
use Rattle.charmlet_model.specs.declared.names.MsgId.{MsgId}
use Rattle.charmlet_leases.specs.Seats.Seats.{HeldSeat, lists_out}
use Rattle.charmlet_leases.specs.Seats.Woven.{IsWoven}
use Rattle.charmlet_leases.proofs.seats.table.take_all.Given as goal

-- what the seats that are left are woven into, and all of them are then woven into the whole
abbrev pub invariant-loop-seat : goal.invariant-loop-seat
invariant-loop-seat g l =
    (length (lists_out l.authority) ≡ vec_len l.seats)
    × ((whole : List MsgId) → IsWoven (lists_out l.initial.authority) whole → (left : List MsgId) × IsWoven (lists_out l.authority) left
    × (IsWoven (map (λ (seat : HeldSeat). seat.ids) l.seats.items) left → IsWoven (map (λ (seat : HeldSeat). seat.ids) l.initial.seats.items) whole))

abbrev pub decreases-loop-seat : goal.decreases-loop-seat
decreases-loop-seat g l = vec_len l.seats
