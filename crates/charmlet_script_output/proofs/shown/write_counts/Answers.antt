use Rattle.std.proofs.Common.{List, sym, subst}
use Rattle.std.specs.Prelude.{get_or, take}
use Rattle.std.specs.Io.KnownBytes.{Appends}
use Rattle.std.specs.List.{flat_map}
use Rattle.std.proofs.lemmas.List.{take_more}
use Rattle.charmlet_model.specs.declared.kind.Kind.TheVariants.{Counter}
use Rattle.charmlet_script.specs.declared.printed.Counted.{Counted}
use Rattle.charmlet_script_output.specs.Writing.{in_lines}
use Rattle.charmlet_script_output.specs.Shown.{counted_texts}
use Rattle.charmlet_script_output.proofs.Printing.{beginning_written, lines_begin, lines_more}
use Rattle.charmlet_script_output.proofs.shown.write_counts.Goals as goal

-- of no object
abbrev none : Counted
none = record { kind = Counter; supplied = 0; on_shelves = 0; in_stock = 0; retired = 0 }

pub loop-counted-preserved : goal.loop-counted-preserved
loop-counted-preserved g c =
    let old = g.W.Write.contents c.args.writer.now in
    let mid = g.W.Write.contents c.loop-counted.writer in
    let new = g.W.Write.contents c.write_count.new.writer in
    let counts = c.args.counts.now in
    let at = c.loop-counted.counted-index in
    subst (λ (cs : List Counted). Appends old new (in_lines (flat_map counted_texts cs))) (sym (take_more counts at none c.loop-counted-test.true))
    (lines_more counted_texts old mid new (take at counts) (get_or counts at none) c.loop-counted.invariant c.in_ok-write_count.ensures)

pub returns-in_err-write_count : goal.returns-in_err-write_count
returns-in_err-write_count g c =
    let old = g.W.Write.contents c.args.writer.now in
    let mid = g.W.Write.contents c.loop-counted.writer in
    let new = g.W.Write.contents c.write_count.new.writer in
    let counts = c.args.counts.now in
    beginning_written c.from_residual.result _ old new (in_lines (flat_map counted_texts counts)) c.from_residual.ensures.1
    (lines_begin counted_texts old mid new counts c.loop-counted.counted-index none c.loop-counted-test.true c.loop-counted.invariant c.in_err-write_count.ensures)
