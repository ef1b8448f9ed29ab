use Rattle.std.proofs.Common.{sym, ◌∙◌, arith}
use Rattle.std.proofs.lemmas.Bool.{lt-leb}
use Rattle.charmlet_image.proofs.PackedSizes.{tape_size, tape_many, tape_cut}
use Rattle.charmlet_image.proofs.entries.is_tape.Goals as goal

pub returns-then-count-le-MAX_TAPE : goal.returns-then-count-le-MAX_TAPE
returns-then-count-le-MAX_TAPE c = rw (c.left.ensures) (tape_size c.args.bytes.now c.in-Ok.count c.u32.new.self (rw c.new-reader.ensures at c.in-Ok.ensures) (omega (arith, c.if-count-le-MAX_TAPE.true)))

pub returns-else-count-le-MAX_TAPE : goal.returns-else-count-le-MAX_TAPE
returns-else-count-le-MAX_TAPE c = lt-leb _ _ c.if-count-le-MAX_TAPE.false ∙ sym (tape_many c.args.bytes.now c.in-Ok.count c.u32.new.self (rw c.new-reader.ensures at c.in-Ok.ensures) (omega (arith, c.if-count-le-MAX_TAPE.false)))

pub returns-in-Err : goal.returns-in-Err
returns-in-Err c = sym (tape_cut c.args.bytes.now c.in-Err.field-0.bytes_left (rw c.new-reader.ensures at c.in-Err.ensures))
