use Rattle.std.proofs.Common.{◌∷◌, [], arith, length-append}
use Rattle.std.proofs.lemmas.Result.{err_from_is_err_and}
use Rattle.charmlet_record.specs.Reading.{read_times}
use Rattle.charmlet_record.proofs.Loops.{goes_on, ends, is_done}
use Rattle.charmlet_image.specs.Reading.{read_item}
use Rattle.charmlet_image.proofs.clients.items_of.Goals as goal

pub returns-in_err-item : goal.returns-in_err-item
returns-in_err-item c =
    let e = err_from_is_err_and c.from_residual.result c.from_residual.ensures.1 in
    rw (e.1, e.2) (ends c.in_err-item.field-0.0 read_item c.loop.window c.args.count c.loop.counter c.loop.reader (read_times read_item c.args.count c.args.reader.now) c.loop-test.true c.in_err-item.ensures c.loop.invariant.0)

pub loop-preserved : goal.loop-preserved
loop-preserved c = (
  rw c.push.ensures (goes_on read_item c.loop.window c.args.count c.loop.counter c.loop.reader c.in_ok-item.item c.read_item.new.reader (read_times read_item c.args.count c.args.reader.now) c.loop-test.true c.in_ok-item.ensures c.loop.invariant.0),
  rw c.push.ensures (omega (arith, length-append c.loop.window (c.in_ok-item.item ∷ []), c.loop.invariant.1)),
)

pub returns : goal.returns
returns c = is_done read_item c.loop.window c.args.count c.loop.counter c.loop.reader (read_times read_item c.args.count c.args.reader.now) c.loop-test.false c.loop.invariant.0
