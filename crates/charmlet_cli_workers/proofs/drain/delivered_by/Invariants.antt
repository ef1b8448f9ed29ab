use Rattle.std.proofs.Common.{◌≡◌, ◌-◌, ◌^◌, take}
use Rattle.std.specs.Prelude.{min, sum_by}
use Rattle.charmlet_workers.specs.declared.work.WorkerSlot.{WorkerSlot}
use Rattle.charmlet_cli_workers.proofs.drain.delivered_by.Given as goal

-- the sum of those so far
abbrev pub invariant-loop-slot : goal.invariant-loop-slot
invariant-loop-slot g l = l.total ≡ min (sum_by (λ (s : WorkerSlot g.row.B.Denot). s.worked.count) (take l.slot-index l.slots)) (2 ^ 64 - 1)
