use Rattle.std.proofs.Common.{ℕ, List, ◌∷◌, [], ◌++◌, ◌∙◌, subst}
use Rattle.std.specs.Io.KnownBytes.{Appends}
use Rattle.std.specs.List.{flat_map}
use Rattle.charmlet_model.specs.declared.kind_version.KindVersion.{KindVersion}
use Rattle.charmlet_model.specs.Texts.{Text}
use Rattle.charmlet_cli.specs.FoundLines.{array_texts, found_texts, half_line, half_line_text, wanted_texts}
use Rattle.charmlet_script_output.specs.Writing.{in_lines, AppendsBeginning}
use Rattle.charmlet_script_output.specs.Shown.{all_kinds}
use Rattle.charmlet_script_output.proofs.Printing.{beginning_written, line_begins, line_then}
use Rattle.charmlet_cli.proofs.show.write_found.Goals as goal

pub returns-in_err-write_line : goal.returns-in_err-write_line
returns-in_err-write_line g c =
    let f = c.args.listed.now.found in
    let old = g.W.Write.contents c.args.writer.now in
    let new = g.W.Write.contents c.write_line.new.writer in
    let first : List Text = half_line_text (half_line f) ∷ [] in
    let rest : List Text = flat_map array_texts f.manifest ++ flat_map (wanted_texts f.wanted) all_kinds in
    beginning_written c.from_residual.result _ old new (in_lines (found_texts f)) c.from_residual.ensures.1 (line_begins old new first rest c.in_err-write_line.ensures)

pub returns-in_err-write_arrays : goal.returns-in_err-write_arrays
returns-in_err-write_arrays g c =
    let f = c.args.listed.now.found in
    let old = g.W.Write.contents c.args.writer.now in
    let mid = g.W.Write.contents c.write_line.new.writer in
    let new = g.W.Write.contents c.write_arrays.new.writer in
    let r = c.from_residual-in_err-write_arrays.result in
    let first : List Text = half_line_text (half_line f) ∷ [] in
    let arrays : List Text = flat_map array_texts f.manifest in
    let wanted : List Text = flat_map (wanted_texts f.wanted) all_kinds in
    let begun = subst (λ (es : List (ℕ × KindVersion)). AppendsBeginning mid new (in_lines (flat_map array_texts es))) (c.as_slice.ensures.value ∙ c.requires) c.in_err-write_arrays.ensures in
    line_then r old mid new first (arrays ++ wanted) c.in_ok-write_line.ensures
    (beginning_written r _ mid new (in_lines (arrays ++ wanted)) c.from_residual-in_err-write_arrays.ensures.1 (line_begins mid new arrays wanted begun))

pub returns : goal.returns
returns g c =
    let f = c.args.listed.now.found in
    let old = g.W.Write.contents c.args.writer.now in
    let one = g.W.Write.contents c.write_line.new.writer in
    let two = g.W.Write.contents c.write_arrays.new.writer in
    let new = g.W.Write.contents c.write_wanted.new.writer in
    let r = c.write_wanted.result in
    let first : List Text = half_line_text (half_line f) ∷ [] in
    let arrays : List Text = flat_map array_texts f.manifest in
    let wanted : List Text = flat_map (wanted_texts f.wanted) all_kinds in
    let listed = subst (λ (es : List (ℕ × KindVersion)). Appends one two (in_lines (flat_map array_texts es))) (c.as_slice.ensures.value ∙ c.requires) c.in_ok-write_arrays.ensures in
    line_then r old one new first (arrays ++ wanted) c.in_ok-write_line.ensures (line_then r one two new arrays wanted listed c.write_wanted.ensures)
