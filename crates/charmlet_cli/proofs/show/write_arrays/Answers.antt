use Rattle.charmlet_model.specs.declared.kind_version.KindVersion.TheVariants.{Counter}
use Rattle.std.specs.List.{flat_map}
use Rattle.charmlet_cli.specs.FoundLines.{array_texts}
use Rattle.charmlet_script_output.specs.Writing.{in_lines}
use Rattle.charmlet_script_output.proofs.Printing.{beginning_written, lines_begin}
use Rattle.charmlet_cli.proofs.show.write_arrays.Goals as goal

pub returns-in_err-write_line : goal.returns-in_err-write_line
returns-in_err-write_line g c =
    let old = g.W.Write.contents c.args.writer.now in
    let mid = g.W.Write.contents c.loop-array.writer in
    let new = g.W.Write.contents c.write_line.new.writer in
    beginning_written c.from_residual.result _ old new (in_lines (flat_map array_texts c.args.arrays.now)) c.from_residual.ensures.1
    (lines_begin array_texts old mid new c.args.arrays.now c.loop-array.array-index (0, Counter) c.loop-array-test.true c.loop-array.invariant c.in_err-write_line.ensures)
