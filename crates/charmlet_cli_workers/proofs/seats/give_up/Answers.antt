use Rattle.std.proofs.Common.{rules, ◌≡◌, ◌+◌, List, [], ◌∷◌, ◌++◌, length, map, sym, ap, ◌∙◌, arith}
use Rattle.std.proofs.lemmas.List.{append-nil, nil_from_length}
use Rattle.charmlet_model.specs.declared.names.MsgId.{MsgId}
use Rattle.charmlet_leases.specs.Seats.Seats.{HeldSeat}
use Rattle.charmlet_workers.specs.declared.work.WorkerSlot.{WorkerSlot}
use Rattle.charmlet_cli_workers.proofs.Delivering.{moved}
use Rattle.charmlet_cli_workers.proofs.seats.give_up.Goals as goal

pub loop-slot-init : goal.loop-slot-init
loop-slot-init g c =
    let ids : List (WorkerSlot g.row.B.Denot) → List (List MsgId) = λ ss. map (λ (s : WorkerSlot g.row.B.Denot). s.seat.ids) ss in
    let is : c.into_iter-slot-iterator.result.rest.items ≡ c.args.slots.items = c.into_iter-slot-iterator.ensures.into_iter_gives.0 in
    (search rules, ap (λ ss. map (λ (h : HeldSeat). h.ids) c.args.seats.now.items ++ ids ss) is)

pub loop-slot-preserved : goal.loop-slot-preserved
loop-slot-preserved g c =
    let ids : List (WorkerSlot g.row.B.Denot) → List (List MsgId) = λ ss. map (λ (s : WorkerSlot g.row.B.Denot). s.seat.ids) ss in
    let held : List HeldSeat → List (List MsgId) = λ hs. map (λ (h : HeldSeat). h.ids) hs in
    let seats = c.loop-slot.seats.items in
    let more = c.next.new.self.rest.items in
    let is : c.loop-slot.slot-iterator.rest.items ≡ c.in-Some.slot ∷ more = search rules in
    let fewer : c.next.new.self.rest.len + 1 ≡ c.loop-slot.slot-iterator.rest.len = search rules in
    let before = c.loop-slot.invariant.0 ∙ ap length is in
    let pushed : c.push.new.self.items ≡ seats ++ c.in-Some.slot.seat ∷ [] = search rules in (
      omega (arith, fewer, before),
      ap (λ hs. held hs ++ ids more) pushed ∙ moved seats c.in-Some.slot.seat (ids more) ∙ ap (λ ss. held seats ++ ids ss) (sym is) ∙ c.loop-slot.invariant.1,
    )

pub returns : goal.returns
returns g c =
    let ids : List (WorkerSlot g.row.B.Denot) → List (List MsgId) = λ ss. map (λ (s : WorkerSlot g.row.B.Denot). s.seat.ids) ss in
    let held : List HeldSeat → List (List MsgId) = λ hs. map (λ (h : HeldSeat). h.ids) hs in
    let seats = c.loop-slot.seats.items in
    let none : c.loop-slot.slot-iterator.rest.len ≡ 0 = search rules in
    let empty : c.loop-slot.slot-iterator.rest.items ≡ [] = nil_from_length _ (sym c.loop-slot.invariant.0 ∙ none) in
    sym (append-nil (held seats)) ∙ ap (λ ss. held seats ++ ids ss) (sym empty) ∙ c.loop-slot.invariant.1
