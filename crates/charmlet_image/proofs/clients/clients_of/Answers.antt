use Rattle.std.proofs.Common.{[]}
use Rattle.std.proofs.lemmas.Result.{err_from_is_err_and}
use Rattle.charmlet_image.specs.After.{read_after}
use Rattle.charmlet_image.specs.Reading.{read_client}
use Rattle.charmlet_image.proofs.Loops.{after_on, after_ends, after_done}
use Rattle.charmlet_image.proofs.clients.clients_of.Goals as goal

pub returns-in_err-client : goal.returns-in_err-client
returns-in_err-client c =
    let e = err_from_is_err_and c.from_residual.result c.from_residual.ensures.1 in
    let read = read_client c.args.mark in
    rw (e.1, e.2) (after_ends c.in_err-client.field-0.0 read c.loop.clients.items c.args.count c.loop.counter c.loop.reader (read_after read c.args.count [] c.args.reader.now) c.loop-test.true (rw (← c.as_slice.ensures.value) c.in_err-client.ensures) c.loop.invariant)

pub loop-preserved : goal.loop-preserved
loop-preserved c =
    let read = read_client c.args.mark in
    rw c.in_ok-push.ensures.items (after_on read c.loop.clients.items c.args.count c.loop.counter c.loop.reader c.in_ok-client.client c.read_client.new.reader (read_after read c.args.count [] c.args.reader.now) c.loop-test.true (rw (← c.as_slice.ensures.value) c.in_ok-client.ensures) c.loop.invariant)

pub returns : goal.returns
returns c =
    let read = read_client c.args.mark in
    after_done read c.loop.clients.items c.args.count c.loop.counter c.loop.reader (read_after read c.args.count [] c.args.reader.now) c.loop-test.false c.loop.invariant
