use Rattle.std.proofs.Common.{◌≡◌, ◌+◌, ◌<◌, ◌≤◌, ℕ, List, [], ◌∷◌, ◌++◌, length, sym, ap, subst, ◌∙◌, arith}
use Rattle.std.specs.Prelude.{drop, take, get_or}
use Rattle.std.proofs.lemmas.List.{take_all, take_more}
use Rattle.std.proofs.lemmas.List.Sums.{sum_by-drop_more}
use Rattle.charmlet_model.specs.declared.kind.Kind.{Kind}
use Rattle.charmlet_model.specs.Texts.{Text}
use Rattle.charmlet_script.specs.declared.script.Line.{Line}
use Rattle.charmlet_script.specs.Script.{blanks_in, blanks_of}
use Rattle.charmlet_engine.proofs.Advancing.{advances_after}
use Rattle.charmlet_script_output.specs.Named.{Names}
use Rattle.charmlet_script_output.specs.Supplied.{blanks_left}
use Rattle.charmlet_script_output.specs.Ledgers.{ledger_in}
use Rattle.charmlet_cli.specs.Lines.{AreRun, Continues, Follows, Prints, named_at}
use Rattle.charmlet_cli.proofs.Continuing.{continued, prints_more, prints_until}
use Rattle.charmlet_script_output.proofs.Results.{on_err}
use Rattle.charmlet_cli.proofs.Naming.{same_desk}
use Rattle.charmlet_script_output.proofs.Printing.{lines_then, split_at}
use Rattle.charmlet_cli.proofs.new_run.run_lines.Goals as goal

-- blanks that are enough for lines are so for the first of them and the others
enough_for : (kind : Kind) (lines : List Line) (at : ℕ) (line : Line) (left : ℕ) → at < length lines → line ≡ get_or lines at line → blanks_of kind (drop at lines) ≤ left →
    blanks_in kind line + blanks_of kind (drop (at + 1) lines) ≤ left
enough_for kind lines at line left within is enough =
    let split : blanks_of kind (drop at lines) ≡ blanks_in kind (get_or lines at line) + blanks_of kind (drop (at + 1) lines) = sum_by-drop_more (blanks_in kind) lines at line within in
    let here : blanks_in kind line ≡ blanks_in kind (get_or lines at line) = ap (blanks_in kind) is in
    omega arith

pub run_line-requires-clause-enough : goal.run_line-requires-clause-enough
run_line-requires-clause-enough g c _ _ = λ kind.
    let enough = enough_for kind c.args.lines.now c.loop-line.line-index c.line-item.result (blanks_left c.loop-line.source kind) c.loop-line-test.true c.line-item.is (c.loop-line.invariant.2 kind) in
    omega arith

pub returns-in_err-run_line-clause-breaks_off : goal.returns-in_err-run_line-clause-breaks_off
returns-in_err-run_line-clause-breaks_off g c =
    let lines = c.args.lines.now in
    let at = c.loop-line.line-index in
    let named = named_at c.args.desk.now in
    let printed = c.in_err-run_line.ensures.prints in
    let first = ledger_in c.args.engine.now in
    let mid = ledger_in c.loop-line.engine in
    let last = ledger_in c.run_line.new.engine in
    let so_far = c.loop-line.invariant.0 in
    let follows : Follows g.D.Disk named mid c.line-item.result printed.0 last =
    subst (λ (names : Names). Follows g.D.Disk names mid c.line-item.result printed.0 last) (same_desk c.loop-line.desk c.args.desk.now c.loop-line.invariant.1) printed.1 in
    let here : Continues g.D.Disk mid last = continued g.D.Disk c.loop-line.engine c.run_line.new.engine c.run_line.ensures.advances in
    on_err c.from_residual.result (
      take at lines,
      c.line-item.result,
      drop (at + 1) lines,
      split_at lines at c.line-item.result c.loop-line-test.true ∙ ap (λ line. take at lines ++ line ∷ drop (at + 1) lines) (sym c.line-item.is),
      mid,
      g.W.Write.contents c.loop-line.writer,
      (so_far.0, prints_until g.D.Disk named mid last first mid (take at lines) so_far.0 here so_far.1, so_far.2),
      printed.0,
      follows,
      here,
      printed.2,
    )

pub loop-line-preserved : goal.loop-line-preserved
loop-line-preserved g c =
    let lines = c.args.lines.now in
    let at = c.loop-line.line-index in
    let named = named_at c.args.desk.now in
    let first = ledger_in c.args.engine.now in
    let before = ledger_in c.loop-line.engine in
    let next = ledger_in c.run_line.new.engine in
    let here : Continues g.D.Disk before next = continued g.D.Disk c.loop-line.engine c.run_line.new.engine c.run_line.ensures.advances in
    let now : Continues g.D.Disk next next = continued g.D.Disk c.run_line.new.engine c.run_line.new.engine c.facts-in-loop-line.ensures.still in
    let so_far = c.loop-line.invariant.0 in
    let printed = c.in_ok-run_line.ensures.prints in
    let follows : Follows g.D.Disk named before c.line-item.result printed.0 next =
    subst (λ (names : Names). Follows g.D.Disk names before c.line-item.result printed.0 next) (same_desk c.loop-line.desk c.args.desk.now c.loop-line.invariant.1) printed.1 in
    let more : take (at + 1) lines ≡ take at lines ++ c.line-item.result ∷ [] =
    take_more lines at c.line-item.result c.loop-line-test.true ∙ ap (λ line. take at lines ++ line ∷ []) (sym c.line-item.is) in
    let texts : List Text = so_far.0 ++ printed.0 in
    let until : Prints g.D.Disk named next first (take at lines) so_far.0 before = prints_until g.D.Disk named before next first before (take at lines) so_far.0 here so_far.1 in
    let prints : Prints g.D.Disk named next first (take (at + 1) lines) texts next =
    subst (λ lines. Prints g.D.Disk named next first lines texts next) (sym more) (prints_more g.D.Disk named next first before next (take at lines) c.line-item.result so_far.0 printed.0 until follows here now) in (
      (texts, prints, lines_then _ _ _ so_far.0 printed.0 so_far.2 printed.2),
      c.run_line.ensures.handlers ∙ c.loop-line.invariant.1,
      λ kind.
          let enough = enough_for kind lines at c.line-item.result (blanks_left c.loop-line.source kind) c.loop-line-test.true c.line-item.is (c.loop-line.invariant.2 kind) in
          let left : blanks_left c.loop-line.source kind ≤ blanks_left c.run_line.new.source kind + blanks_in kind c.line-item.result = c.in_ok-run_line.ensures.left kind in
          omega arith,
      advances_after g.D.Disk c.args.engine.now c.loop-line.engine c.run_line.new.engine c.loop-line.invariant.3 c.run_line.ensures.advances,
    )

pub returns-in_err-run_line-clause-advances : goal.returns-in_err-run_line-clause-advances
returns-in_err-run_line-clause-advances g c = advances_after g.D.Disk c.args.engine.now c.loop-line.engine c.run_line.new.engine c.loop-line.invariant.3 c.run_line.ensures.advances

pub returns-clause-prints : goal.returns-clause-prints
returns-clause-prints g c =
    let last = ledger_in c.loop-line.engine in
    subst (λ (lines : List Line). AreRun g.D.Disk (named_at c.args.desk.now) last (ledger_in c.args.engine.now) lines last (g.W.Write.contents c.args.writer.now) (g.W.Write.contents c.loop-line.writer))
    (take_all c.loop-line.line-index c.args.lines.now c.loop-line-test.false) c.loop-line.invariant.0
