use Rattle.std.proofs.Common.{◌+◌, ◌≡◌, ◌∙◌, ℕ, [], ◌∷◌, ap, drop, sym, arith}
use Rattle.std.specs.Prelude.{None, option_copied, slice_index_or}
use Rattle.charmlet_model.specs.Row.{Item, below}
use Rattle.charmlet_dump.specs.Facts.{Request, window_facts}
use Rattle.charmlet_dump.specs.Lines.{fact_line, lines_of}
use Rattle.charmlet_dump.proofs.Printing.{beginning_written, breaks_off, goes_on, window_left}
use Rattle.charmlet_dump.proofs.world_lines.write_window.Goals as goal

pub loop-place-preserved : goal.loop-place-preserved
loop-place-preserved g c =
    let client = c.args.client in
    let row = c.args.row.now in
    let at = c.loop-place.place in
    let before = c.saturating_sub-before.result in
    let all = window_facts client (below row) row.window in
    let rest = window_facts client (below row + at) (drop at row.window) in
    let next = window_facts client (below row + (at + 1)) (drop (at + 1) row.window) in
    let reply : Item = option_copied c.get.result in
    let is : rest ≡ Request client (before + at + 1) reply ∷ next =
    window_left client (below row) row.window at (omega (arith, c.loop-place-test.true, c.len-place-end.ensures.count))
    ∙ ap (λ (k : ℕ). Request client (k + at + 1) (slice_index_or row.window at None) ∷ next) (omega arith)
    ∙ ap (λ (o : Item). Request client (before + at + 1) o ∷ next) (sym c.get.ensures) in
    goes_on (fact_line c.args.form) (g.W.Write.contents c.args.writer.now) (g.W.Write.contents c.loop-place.writer) (g.W.Write.contents c.write_fact.new.writer)
    all rest (Request client (before + at + 1) reply ∷ []) next c.loop-place.invariant is c.in_ok-write_fact.ensures

pub returns-in_err-write_fact : goal.returns-in_err-write_fact
returns-in_err-write_fact g c =
    let client = c.args.client in
    let row = c.args.row.now in
    let at = c.loop-place.place in
    let before = c.saturating_sub-before.result in
    let all = window_facts client (below row) row.window in
    let rest = window_facts client (below row + at) (drop at row.window) in
    let next = window_facts client (below row + (at + 1)) (drop (at + 1) row.window) in
    let reply : Item = option_copied c.get.result in
    let is : rest ≡ Request client (before + at + 1) reply ∷ next =
    window_left client (below row) row.window at (omega (arith, c.loop-place-test.true, c.len-place-end.ensures.count))
    ∙ ap (λ (k : ℕ). Request client (k + at + 1) (slice_index_or row.window at None) ∷ next) (omega arith)
    ∙ ap (λ (o : Item). Request client (before + at + 1) o ∷ next) (sym c.get.ensures) in
    let old = g.W.Write.contents c.args.writer.now in
    let new = g.W.Write.contents c.write_fact.new.writer in
    beginning_written c.from_residual.result _ old new (lines_of c.args.form all) c.from_residual.ensures.1
    (breaks_off (fact_line c.args.form) old (g.W.Write.contents c.loop-place.writer) new
    all rest (Request client (before + at + 1) reply ∷ []) next c.loop-place.invariant is c.in_err-write_fact.ensures)
