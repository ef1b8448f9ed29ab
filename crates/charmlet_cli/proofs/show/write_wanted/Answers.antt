use Rattle.std.proofs.Common.{List, sym, subst}
use Rattle.std.specs.Prelude.{get_or, take}
use Rattle.std.specs.Io.KnownBytes.{Appends}
use Rattle.std.specs.List.{flat_map}
use Rattle.std.proofs.lemmas.List.{take_more}
use Rattle.charmlet_model.specs.declared.kind.Kind.{Kind}
use Rattle.charmlet_model.specs.declared.kind.Kind.TheVariants as kinds
use Rattle.charmlet_model.specs.Texts.{Text}
use Rattle.charmlet_cli.specs.FoundLines.{count_texts, wanted_texts}
use Rattle.charmlet_script_output.specs.Writing.{in_lines, AppendsBeginning}
use Rattle.charmlet_script_output.specs.Shown.{all_kinds}
use Rattle.charmlet_script_output.proofs.Printing.{beginning_written, lines_begin, lines_more}
use Rattle.charmlet_cli.proofs.show.write_wanted.Goals as goal

pub loop-kind-preserved : goal.loop-kind-preserved
loop-kind-preserved g c =
    let of : Kind → List Text = wanted_texts c.args.wanted.now in
    let old = g.W.Write.contents c.args.writer.now in
    let mid = g.W.Write.contents c.loop-kind.writer in
    let new = g.W.Write.contents c.write_count.new.writer in
    let at = c.loop-kind.kind-index in
    let kind = get_or all_kinds at kinds.Counter in
    let here = subst (λ n. Appends mid new (in_lines (count_texts kind n))) c.of.ensures c.in_ok-write_count.ensures in
    subst (λ kinds. Appends old new (in_lines (flat_map of kinds))) (sym (take_more all_kinds at kinds.Counter c.loop-kind-test.true))
    (lines_more of old mid new (take at all_kinds) kind c.loop-kind.invariant here)

pub returns-in_err-write_count : goal.returns-in_err-write_count
returns-in_err-write_count g c =
    let of : Kind → List Text = wanted_texts c.args.wanted.now in
    let old = g.W.Write.contents c.args.writer.now in
    let mid = g.W.Write.contents c.loop-kind.writer in
    let new = g.W.Write.contents c.write_count.new.writer in
    let at = c.loop-kind.kind-index in
    let kind = get_or all_kinds at kinds.Counter in
    let here = subst (λ n. AppendsBeginning mid new (in_lines (count_texts kind n))) c.of.ensures c.in_err-write_count.ensures in
    beginning_written c.from_residual.result _ old new (in_lines (flat_map of all_kinds)) c.from_residual.ensures.1
    (lines_begin of old mid new all_kinds at kinds.Counter c.loop-kind-test.true c.loop-kind.invariant here)
