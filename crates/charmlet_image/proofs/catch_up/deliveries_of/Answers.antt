use Rattle.std.proofs.Common.{arith}
use Rattle.std.proofs.lemmas.Result.{err_from_is_err_and}
use Rattle.charmlet_record.specs.Reading.{read_caught_up, read_positioned, read_times}
use Rattle.charmlet_record.proofs.Loops.{goes_on, ends, is_done}
use Rattle.charmlet_image.proofs.catch_up.deliveries_of.Goals as goal

pub returns-in_err-delivery : goal.returns-in_err-delivery
returns-in_err-delivery c =
    let e = err_from_is_err_and c.from_residual.result c.from_residual.ensures.1 in
    let read = read_positioned c.args.following (read_caught_up c.args.manifest.now) in
    rw (e.1, e.2) (ends c.in_err-delivery.field-0.0 read c.loop.deliveries.items c.args.count c.loop.counter c.loop.reader (read_times read c.args.count c.args.reader.now) c.loop-test.true c.in_err-delivery.ensures.gives c.loop.invariant.0)

pub loop-preserved : goal.loop-preserved
loop-preserved c =
    let read = read_positioned c.args.following (read_caught_up c.args.manifest.now) in (
      rw c.in_ok-push.ensures.items (goes_on read c.loop.deliveries.items c.args.count c.loop.counter c.loop.reader c.in_ok-delivery.delivery c.read_positioned_delivery.new.reader (read_times read c.args.count c.args.reader.now) c.loop-test.true c.in_ok-delivery.ensures.gives c.loop.invariant.0),
      omega (arith, c.in_ok-delivery.ensures.fewer, c.loop.invariant.1),
    )

pub returns : goal.returns
returns c =
    let read = read_positioned c.args.following (read_caught_up c.args.manifest.now) in
    is_done read c.loop.deliveries.items c.args.count c.loop.counter c.loop.reader (read_times read c.args.count c.args.reader.now) c.loop-test.false c.loop.invariant.0
