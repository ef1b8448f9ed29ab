use Rattle.std.proofs.Common.{rules, ◌≡◌, ◌+◌, ◌^◌, ◌<◌, ◌≤◌, ap, arith, get_or, take}
use Rattle.std.specs.Prelude.{sum_by}
use Rattle.std.proofs.lemmas.List.{take_all}
use Rattle.std.proofs.lemmas.List.Sums.{sum_by_more}
use Rattle.charmlet_workers.specs.declared.work.WorkerSlot.{WorkerSlot}
use Rattle.charmlet_cli_workers.proofs.drain.delivered_by.Goals as goal

pub loop-slot-preserved : goal.loop-slot-preserved
loop-slot-preserved g c =
    let f = λ (s : WorkerSlot g.row.B.Denot). s.worked.count in
    let xs = c.args.slots.now in
    let at = c.loop-slot.slot-index in
    let item = c.slot-item.result in
    let more : sum_by f (take (at + 1) xs) ≡ sum_by f (take at xs) + f (get_or xs at item) = sum_by_more f xs at item c.loop-slot-test.true in
    let is : f item ≡ f (get_or xs at item) = ap f c.slot-item.is in
    let was = c.loop-slot.invariant in
    let now = c.saturating_add-total.ensures in
    omega (arith, more, is, was, now)

pub returns-in_default : goal.returns-in_default
returns-in_default g c =
    let f = λ (s : WorkerSlot g.row.B.Denot). s.worked.count in
    let all : sum_by f (take c.loop-slot.slot-index c.args.slots.now) ≡ sum_by f c.args.slots.now = ap (sum_by f) (take_all c.loop-slot.slot-index c.args.slots.now c.loop-slot-test.false) in
    let was = c.loop-slot.invariant in
    let more : 2 ^ 32 ≤ c.loop-slot.total = search rules in
    omega (arith, all, was, more)

pub returns : goal.returns
returns g c =
    let f = λ (s : WorkerSlot g.row.B.Denot). s.worked.count in
    let all : sum_by f (take c.loop-slot.slot-index c.args.slots.now) ≡ sum_by f c.args.slots.now = ap (sum_by f) (take_all c.loop-slot.slot-index c.args.slots.now c.loop-slot-test.false) in
    let was = c.loop-slot.invariant in
    let is : c.in-Ok.count ≡ c.loop-slot.total = search rules in
    let less : c.loop-slot.total < 2 ^ 32 = search rules in
    omega (arith, all, was, is, less)
