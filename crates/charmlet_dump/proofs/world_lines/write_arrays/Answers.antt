use Rattle.std.proofs.Common.{◌+◌, drop, get_or, ℕ}
use Rattle.std.specs.List.{flat_map}
use Rattle.charmlet_model.specs.declared.kind_version.KindVersion.{KindVersion}
use Rattle.charmlet_model.specs.declared.kind_version.KindVersion.TheVariants.{Counter}
use Rattle.charmlet_dump.specs.Facts.{array_facts}
use Rattle.charmlet_dump.specs.Lines.{fact_line, lines_of}
use Rattle.charmlet_dump.proofs.Printing.{beginning_written, begun, breaks_off, ended, goes_on, left_over, none_left}
use Rattle.charmlet_dump.proofs.world_lines.write_arrays.Goals as goal

pub loop-array-init : goal.loop-array-init
loop-array-init g c = begun (fact_line c.args.form) (g.W.Write.contents c.args.writer.now) (flat_map array_facts c.args.arrays.now)

pub loop-array-preserved : goal.loop-array-preserved
loop-array-preserved g c =
    let all = c.args.arrays.now in
    let at = c.loop-array.array-index in
    let e : ℕ × KindVersion = (0, Counter) in
    goes_on (fact_line c.args.form) (g.W.Write.contents c.args.writer.now) (g.W.Write.contents c.loop-array.writer) (g.W.Write.contents c.write_fact.new.writer)
    (flat_map array_facts all) (flat_map array_facts (drop at all)) (array_facts (get_or all at e)) (flat_map array_facts (drop (at + 1) all))
    c.loop-array.invariant (left_over array_facts all at e c.loop-array-test.true) c.in_ok-write_fact.ensures

pub returns-in_err-write_fact : goal.returns-in_err-write_fact
returns-in_err-write_fact g c =
    let all = c.args.arrays.now in
    let at = c.loop-array.array-index in
    let e : ℕ × KindVersion = (0, Counter) in
    let old = g.W.Write.contents c.args.writer.now in
    let new = g.W.Write.contents c.write_fact.new.writer in
    beginning_written c.from_residual.result _ old new (lines_of c.args.form (flat_map array_facts all)) c.from_residual.ensures.1
    (breaks_off (fact_line c.args.form) old (g.W.Write.contents c.loop-array.writer) new
    (flat_map array_facts all) (flat_map array_facts (drop at all)) (array_facts (get_or all at e)) (flat_map array_facts (drop (at + 1) all))
    c.loop-array.invariant (left_over array_facts all at e c.loop-array-test.true) c.in_err-write_fact.ensures)

pub returns : goal.returns
returns g c =
    let all = c.args.arrays.now in
    let at = c.loop-array.array-index in
    ended (fact_line c.args.form) (g.W.Write.contents c.args.writer.now) (g.W.Write.contents c.loop-array.writer)
    (flat_map array_facts all) (flat_map array_facts (drop at all)) c.loop-array.invariant (none_left array_facts all at c.loop-array-test.false)
