use Rattle.std.proofs.Common.{◌≡◌, None, List, [], ◌∷◌, ◌++◌, map, sym, ap, subst, ◌∙◌}
use Rattle.std.specs.List.{AllByRecursion}
use Rattle.charmlet_workers.specs.declared.work.WorkerSlot.{WorkerSlot}
use Rattle.charmlet_cli_workers.proofs.Delivering.{none_pushed}
use Rattle.charmlet_cli_workers.proofs.seats.take_seats.Goals as goal

pub loop-processor-init : goal.loop-processor-init
loop-processor-init g c =
    (subst (λ (ss : List (WorkerSlot g.row.B.Denot)). AllByRecursion (λ ids. ids ≡ []) (map (λ (s : WorkerSlot g.row.B.Denot). s.seat.ids) ss)) (sym c.requires) tt, c.reserve.ensures.items)

pub loop-processor-preserved : goal.loop-processor-preserved
loop-processor-preserved g c =
    let slot : WorkerSlot g.row.B.Denot = record { seat = c.in-Ok.seat; worked = record { count = 0; refusal = None } } in (
      none_pushed (λ (s : WorkerSlot g.row.B.Denot). s.seat) (λ (s : WorkerSlot g.row.B.Denot). s.worked) c.loop-processor.slots.items c.push_reserved.new.self.items slot
          (c.push_reserved.ensures.items ∙ ap (λ ss. ss ++ slot ∷ []) c.reserve-in-loop-processor.ensures.items) c.loop-processor.invariant.0 c.in-Ok.ensures.seat.1,
      c.loop-processor.invariant.1,
    )
