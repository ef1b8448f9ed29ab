use Rattle.std.proofs.Common.{[], ◌∷◌, ◌++◌, Bool, List, ap, sym, ◌∙◌, arith}
use Rattle.std.proofs.lemmas.Result.{err_from_is_err_and}
use Rattle.std.proofs.lemmas.List.{map-append}
use Rattle.charmlet_model.specs.declared.names.MsgId.{MsgId}
use Rattle.charmlet_record.specs.Reading.{read_positioned}
use Rattle.charmlet_image.specs.After.{read_after, read_message_if}
use Rattle.charmlet_image.specs.Positioned.{read_positioned_pending}
use Rattle.charmlet_image.proofs.Ids.{absent_is_fresh}
use Rattle.charmlet_image.proofs.Loops.{after_on, after_ends, after_done}
use Rattle.charmlet_image.proofs.pending.messages_of.Goals as goal

pub returns-in_err-message : goal.returns-in_err-message
returns-in_err-message c =
    let e = err_from_is_err_and c.from_residual.result c.from_residual.ensures.1 in
    let read = read_positioned_pending c.args.following c.args.manifest.now in
    let same = c.loop.invariant.ids in
    let tests = ap (λ (test : MsgId → Bool). read_positioned c.args.following (read_message_if test c.args.manifest.now) c.loop.reader) (absent_is_fresh c.loop.messages.items) in
    rw (e.1, e.2) (after_ends c.in_err-message.field-0.0 read c.loop.messages.items c.args.count c.loop.counter c.loop.reader (read_after read c.args.count [] c.args.reader.now) c.loop-test.true (rw tests at (rw same at c.in_err-message.ensures.gives)) c.loop.invariant.read)

pub loop-preserved : goal.loop-preserved
loop-preserved c =
    let read = read_positioned_pending c.args.following c.args.manifest.now in
    let same = c.loop.invariant.ids in
    let tests = ap (λ (test : MsgId → Bool). read_positioned c.args.following (read_message_if test c.args.manifest.now) c.loop.reader) (absent_is_fresh c.loop.messages.items) in
    record {
      read = rw c.in_ok-push.ensures.items (after_on read c.loop.messages.items c.args.count c.loop.counter c.loop.reader c.in_ok-message.message c.read_positioned_message.new.reader (read_after read c.args.count [] c.args.reader.now) c.loop-test.true (rw tests at (rw same at c.in_ok-message.ensures.gives)) c.loop.invariant.read);
      ids = rw c.in_ok-push.ensures.items (c.in_ok-message.ensures.noted ∙ ap (λ (ids : List MsgId). ids ++ c.in_ok-message.message.item.id ∷ []) same ∙ sym (map-append (λ p. p.item.id) c.loop.messages.items (c.in_ok-message.message ∷ [])));
      fewer = omega (arith, c.in_ok-message.ensures.fewer, c.loop.invariant.fewer);
    }

pub returns : goal.returns
returns c =
    let read = read_positioned_pending c.args.following c.args.manifest.now in
    after_done read c.loop.messages.items c.args.count c.loop.counter c.loop.reader (read_after read c.args.count [] c.args.reader.now) c.loop-test.false c.loop.invariant.read
