use Rattle.std.proofs.Common.{◌++◌, List, [], ◌∷◌, refl}
use Rattle.charmlet_model.specs.Row.{below}
use Rattle.charmlet_dump.specs.Facts.{Client, Fact, window_facts}
use Rattle.charmlet_dump.specs.Lines.{fact_line, lines_of}
use Rattle.charmlet_dump.proofs.Printing.{beginning_written, begun, breaks_off, ends_so, goes_on}
use Rattle.charmlet_dump.proofs.world_lines.write_client.Goals as goal

pub returns-in_err-write_fact : goal.returns-in_err-write_fact
returns-in_err-write_fact g c =
    let line = fact_line c.args.form in
    let old = g.W.Write.contents c.args.writer.now in
    let new = g.W.Write.contents c.write_fact.new.writer in
    let row = c.args.row.now in
    let first : List Fact = Client c.args.client row.last ∷ [] in
    let rest = window_facts c.args.client (below row) row.window in
    beginning_written c.from_residual.result _ old new (lines_of c.args.form (first ++ rest)) c.from_residual.ensures.1
    (breaks_off line old old new (first ++ rest) (first ++ rest) first rest (begun line old (first ++ rest)) refl c.in_err-write_fact.ensures)

pub returns : goal.returns
returns g c =
    let line = fact_line c.args.form in
    let old = g.W.Write.contents c.args.writer.now in
    let mid = g.W.Write.contents c.write_fact.new.writer in
    let new = g.W.Write.contents c.write_window.new.writer in
    let row = c.args.row.now in
    let first : List Fact = Client c.args.client row.last ∷ [] in
    let rest = window_facts c.args.client (below row) row.window in
    ends_so line c.write_window.result old mid new (first ++ rest) rest
    (goes_on line old old mid (first ++ rest) (first ++ rest) first rest (begun line old (first ++ rest)) refl c.in_ok-write_fact.ensures) c.write_window.ensures
