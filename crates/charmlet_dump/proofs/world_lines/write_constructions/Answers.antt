use Rattle.std.proofs.Common.{◌+◌, drop, subst}
use Rattle.std.specs.Prelude.{get_or}
use Rattle.std.specs.Io.KnownBytes.{Appends}
use Rattle.std.specs.List.{flat_map}
use Rattle.charmlet_model.specs.declared.kind.Kind.TheVariants as kinds
use Rattle.charmlet_dump.specs.Constructing.{all_kinds}
use Rattle.charmlet_dump.specs.Facts.{construction_facts, count_facts}
use Rattle.charmlet_dump.specs.Lines.{fact_line, lines_of}
use Rattle.charmlet_dump.specs.Writing.{AppendsBeginning}
use Rattle.charmlet_dump.proofs.Printing.{beginning_written, begun, breaks_off, ended, goes_on, left_over, none_left}
use Rattle.charmlet_dump.proofs.world_lines.write_constructions.Goals as goal

pub loop-kind-init : goal.loop-kind-init
loop-kind-init g c = begun (fact_line c.args.form) (g.W.Write.contents c.args.writer.now) (flat_map (construction_facts c.args.world.now) all_kinds)

pub loop-kind-preserved : goal.loop-kind-preserved
loop-kind-preserved g c =
    let of = construction_facts c.args.world.now in
    let at = c.loop-kind.kind-index in
    let kind = get_or all_kinds at kinds.Counter in
    let mid = g.W.Write.contents c.loop-kind.writer in
    let new = g.W.Write.contents c.write_count.new.writer in
    let here = subst (λ n. Appends mid new (lines_of c.args.form (count_facts kind n))) c.constructions.ensures c.in_ok-write_count.ensures in
    goes_on (fact_line c.args.form) (g.W.Write.contents c.args.writer.now) mid new
    (flat_map of all_kinds) (flat_map of (drop at all_kinds)) (of kind) (flat_map of (drop (at + 1) all_kinds))
    c.loop-kind.invariant (left_over of all_kinds at kinds.Counter c.loop-kind-test.true) here

pub returns-in_err-write_count : goal.returns-in_err-write_count
returns-in_err-write_count g c =
    let of = construction_facts c.args.world.now in
    let at = c.loop-kind.kind-index in
    let kind = get_or all_kinds at kinds.Counter in
    let old = g.W.Write.contents c.args.writer.now in
    let mid = g.W.Write.contents c.loop-kind.writer in
    let new = g.W.Write.contents c.write_count.new.writer in
    let here = subst (λ n. AppendsBeginning mid new (lines_of c.args.form (count_facts kind n))) c.constructions.ensures c.in_err-write_count.ensures in
    beginning_written c.from_residual.result _ old new (lines_of c.args.form (flat_map of all_kinds)) c.from_residual.ensures.1
    (breaks_off (fact_line c.args.form) old mid new
    (flat_map of all_kinds) (flat_map of (drop at all_kinds)) (of kind) (flat_map of (drop (at + 1) all_kinds))
    c.loop-kind.invariant (left_over of all_kinds at kinds.Counter c.loop-kind-test.true) here)

pub returns : goal.returns
returns g c =
    let of = construction_facts c.args.world.now in
    let at = c.loop-kind.kind-index in
    ended (fact_line c.args.form) (g.W.Write.contents c.args.writer.now) (g.W.Write.contents c.loop-kind.writer)
    (flat_map of all_kinds) (flat_map of (drop at all_kinds)) c.loop-kind.invariant (none_left of all_kinds at c.loop-kind-test.false)
