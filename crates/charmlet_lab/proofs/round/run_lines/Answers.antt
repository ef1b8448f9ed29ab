use Rattle.std.proofs.Common.{◌≡◌, ◌+◌, ◌≤◌, ◌∷◌, refl, sym, ap, ◌∙◌, arith}
use Rattle.std.specs.Prelude.{drop, get_or}
use Rattle.std.proofs.lemmas.List.{drop_more}
use Rattle.std.proofs.lemmas.List.Sums.{sum_by-drop_more}
use Rattle.charmlet_stock.specs.Stock as stocks
use Rattle.charmlet_script.specs.Script.{blanks_in, blanks_of}
use Rattle.charmlet_requests.specs.Handlers.{handler_of}
use Rattle.charmlet_engine.specs.Engine.{view_of}
use Rattle.charmlet_engine.proofs.Advancing.{advances_after}
use Rattle.charmlet_lab.proofs.Halting.{halts_after, halts_not}
use Rattle.charmlet_lab.proofs.Lines.{run_all, run_no_more, run_on}
use Rattle.charmlet_lab.proofs.round.run_lines.Goals as goal

pub loop-line-init : goal.loop-line-init
loop-line-init g c = (c.facts.ensures.still, c.requires.enough, λ last ran. ran, halts_not g.D.Disk c.args.engine.now c.args.engine.now refl refl)

pub run_line-requires-clause-enough : goal.run_line-requires-clause-enough
run_line-requires-clause-enough g c κs within = λ kind.
    let lines = c.args.lines.now in
    let at = c.loop-line.line-index in
    let split : blanks_of kind (drop at lines) ≡ blanks_in kind (get_or lines at c.line-item.result) + blanks_of kind (drop (at + 1) lines) =
    sum_by-drop_more (blanks_in kind) lines at c.line-item.result c.loop-line-test.true in
    let here : blanks_in kind c.line-item.result ≡ blanks_in kind (get_or lines at c.line-item.result) = ap (blanks_in kind) c.line-item.is in
    let enough : blanks_of kind (drop at lines) ≤ stocks.blanks_in c.loop-line.source kind = c.loop-line.invariant.1 kind in
    omega arith

pub loop-line-preserved : goal.loop-line-preserved
loop-line-preserved g c =
    let lines = c.args.lines.now in
    let at = c.loop-line.line-index in (
      advances_after g.D.Disk c.args.engine.now c.loop-line.engine c.run_line.new.engine c.loop-line.invariant.0 c.run_line.ensures.advances,
      λ kind.
          let split : blanks_of kind (drop at lines) ≡ blanks_in kind (get_or lines at c.line-item.result) + blanks_of kind (drop (at + 1) lines) =
          sum_by-drop_more (blanks_in kind) lines at c.line-item.result c.loop-line-test.true in
          let here : blanks_in kind c.line-item.result ≡ blanks_in kind (get_or lines at c.line-item.result) = ap (blanks_in kind) c.line-item.is in
          let enough : blanks_of kind (drop at lines) ≤ stocks.blanks_in c.loop-line.source kind = c.loop-line.invariant.1 kind in
          let left : stocks.blanks_in c.loop-line.source kind ≤ stocks.blanks_in c.run_line.new.source kind + blanks_in kind c.line-item.result = c.run_line.ensures.left kind in
          omega arith,
      λ last ran.
          let line = c.line-item.result in
          let named = handler_of c.args.handlers.now in
          let split : drop at lines ≡ line ∷ drop (at + 1) lines = drop_more lines at line c.loop-line-test.true ∙ ap (λ l. l ∷ drop (at + 1) lines) (sym c.line-item.is) in
          c.loop-line.invariant.2 last
          (run_on named lines at line split (view_of c.loop-line.engine) (view_of c.run_line.new.engine) last (sym c.is_halted.ensures ∙ c.if-is_halted.false) c.in_ok-run_line.ensures.follows ran),
      halts_after g.D.Disk c.args.engine.now c.loop-line.engine c.run_line.new.engine c.loop-line.invariant.3 (λ runs. sym c.is_halted.ensures ∙ c.if-is_halted.false) c.run_line.ensures.counted,
    )

pub returns-in_err-run_line-clause-advances : goal.returns-in_err-run_line-clause-advances
returns-in_err-run_line-clause-advances g c =
    advances_after g.D.Disk c.args.engine.now c.loop-line.engine c.run_line.new.engine c.loop-line.invariant.0 c.run_line.ensures.advances

pub returns-in_err-run_line-clause-counted : goal.returns-in_err-run_line-clause-counted
returns-in_err-run_line-clause-counted g c =
    halts_after g.D.Disk c.args.engine.now c.loop-line.engine c.run_line.new.engine c.loop-line.invariant.3 (λ runs. sym c.is_halted.ensures ∙ c.if-is_halted.false) c.run_line.ensures.counted

pub returns-then-is_halted-clause-ran : goal.returns-then-is_halted-clause-ran
returns-then-is_halted-clause-ran g c =
    let lines = c.args.lines.now in
    let at = c.loop-line.line-index in
    let line = c.line-item.result in
    let store = view_of c.loop-line.engine in
    let split : drop at lines ≡ line ∷ drop (at + 1) lines = drop_more lines at line c.loop-line-test.true ∙ ap (λ l. l ∷ drop (at + 1) lines) (sym c.line-item.is) in
    c.loop-line.invariant.2 store (run_no_more (handler_of c.args.handlers.now) lines at line split store (sym c.is_halted.ensures ∙ c.if-is_halted.true))

pub returns-clause-ran : goal.returns-clause-ran
returns-clause-ran g c =
    let store = view_of c.loop-line.engine in
    c.loop-line.invariant.2 store (run_all (handler_of c.args.handlers.now) c.args.lines.now c.loop-line.line-index store c.loop-line-test.false)
