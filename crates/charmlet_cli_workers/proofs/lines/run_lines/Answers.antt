use Rattle.std.proofs.Common.{◌≡◌, ◌+◌, ◌≤◌, List, [], ◌∷◌, ◌++◌, refl, sym, ap, subst, ◌∙◌, arith}
use Rattle.std.specs.Prelude.{drop, take}
use Rattle.std.proofs.lemmas.List.{take_all, take_more}
use Rattle.charmlet_script.specs.declared.script.Line.{Line}
use Rattle.charmlet_script.specs.Script.{blanks_in as supplied_by}
use Rattle.charmlet_stock.specs.Stock.{blanks_in}
use Rattle.charmlet_script_output.proofs.Results.{on_err}
use Rattle.charmlet_script_output.proofs.Printing.{appends_nothing, lines_then, split_at}
use Rattle.charmlet_cli_workers.specs.Heard.{known_by, names_in}
use Rattle.charmlet_requests.specs.declared.handlers.Handlers.{Handlers}
use Rattle.charmlet_cli_workers.specs.Said.{AreSaid, SayInTurn, Says}
use Rattle.charmlet_cli_workers.proofs.Enough.{enough_for}
use Rattle.charmlet_cli_workers.proofs.Hearing.{knows_later}
use Rattle.charmlet_cli_workers.proofs.Sayings.{said_all_on, said_more}
use Rattle.charmlet_cli_workers.proofs.lines.run_lines.Goals as goal

pub loop-line-init : goal.loop-line-init
loop-line-init g c = ((λ first done. (first, done, ([], (refl, refl), appends_nothing (g.W.Write.contents c.args.writer.now)))), c.requires.enough, c.requires.tidy, refl, refl)

pub run_line-requires-clause-enough : goal.run_line-requires-clause-enough
run_line-requires-clause-enough g c _ _ = λ kind.
    let enough = enough_for kind c.args.lines.now c.loop-line.line-index c.line-item.result (blanks_in c.loop-line.floor.source kind) c.loop-line-test.true c.line-item.is (c.loop-line.invariant.1 kind) in
    omega arith

pub loop-line-preserved : goal.loop-line-preserved
loop-line-preserved g c =
    let names = names_in c.args.floor.now.handlers in
    let lines = c.args.lines.now in
    let at = c.loop-line.line-index in
    let old = c.loop-line.floor.clients.passes.items in
    let new = c.run_line.new.floor.clients.passes.items in
    let line = c.line-item.result in
    let more : take (at + 1) lines ≡ take at lines ++ line ∷ [] =
    take_more lines at line c.loop-line-test.true ∙ ap (λ line. take at lines ++ line ∷ []) (sym c.line-item.is) in (
      (λ first done.
          let so_far = c.loop-line.invariant.0 first done in
          let mid = so_far.0 in
          let said = so_far.2 in
          let next = c.in_ok-run_line.ensures.said mid so_far.1 in
          let last = next.0 in
          let printed = next.2 in
          let its = subst (λ (hs : Handlers). Says (known_by c.args.runtime.now (names_in hs) new) mid line printed.0 last) c.loop-line.invariant.4 printed.1 in
          let still : SayInTurn (known_by c.args.runtime.now names new) first (take at lines) said.0 mid = said_all_on (known_by c.args.runtime.now names old) (known_by c.args.runtime.now names new) (knows_later c.args.runtime.now names old new c.run_line.ensures.later) first (take at lines) said.0 mid said.1 in
          let says : SayInTurn (known_by c.args.runtime.now names new) first (take (at + 1) lines) (said.0 ++ printed.0) last =
          subst (λ lines. SayInTurn (known_by c.args.runtime.now names new) first lines (said.0 ++ printed.0) last) (sym more) (said_more (known_by c.args.runtime.now names new) first (take at lines) mid line last said.0 printed.0 still its) in
          (last, next.1, (said.0 ++ printed.0, says, lines_then _ _ _ said.0 printed.0 said.2 printed.2))),
      (λ kind.
          let enough = enough_for kind lines at line (blanks_in c.loop-line.floor.source kind) c.loop-line-test.true c.line-item.is (c.loop-line.invariant.1 kind) in
          let left : blanks_in c.loop-line.floor.source kind ≤ blanks_in c.run_line.new.floor.source kind + supplied_by kind line = c.run_line.ensures.left kind in
          omega arith),
      c.run_line.ensures.tidy,
      c.run_line.ensures.seats ∙ c.loop-line.invariant.3,
      c.run_line.ensures.handlers ∙ c.loop-line.invariant.4,
    )

pub returns-in_err-run_line-clause-cut_off : goal.returns-in_err-run_line-clause-cut_off
returns-in_err-run_line-clause-cut_off g c =
    let names = names_in c.args.floor.now.handlers in
    let lines = c.args.lines.now in
    let at = c.loop-line.line-index in
    let old = c.loop-line.floor.clients.passes.items in
    let new = c.run_line.new.floor.clients.passes.items in
    on_err c.from_residual.result (λ first done.
    let so_far = c.loop-line.invariant.0 first done in
    let mid = so_far.0 in
    let said = so_far.2 in
    let next = c.in_err-run_line.ensures.said mid so_far.1 in
    let printed = next.2 in
    let its = subst (λ (hs : Handlers). Says (known_by c.args.runtime.now (names_in hs) new) mid c.line-item.result printed.0 next.0) c.loop-line.invariant.4 printed.1 in
    let still : SayInTurn (known_by c.args.runtime.now names new) first (take at lines) said.0 mid = said_all_on (known_by c.args.runtime.now names old) (known_by c.args.runtime.now names new) (knows_later c.args.runtime.now names old new c.run_line.ensures.later) first (take at lines) said.0 mid said.1 in (
      next.0,
      next.1,
      (
        take at lines,
        c.line-item.result,
        drop (at + 1) lines,
        split_at lines at c.line-item.result c.loop-line-test.true ∙ ap (λ line. take at lines ++ line ∷ drop (at + 1) lines) (sym c.line-item.is),
        mid,
        g.W.Write.contents c.loop-line.writer,
        (said.0, still, said.2),
        printed.0,
        its,
        printed.2,
      ),
    ))

pub returns-in_err-run_line-clause-seats : goal.returns-in_err-run_line-clause-seats
returns-in_err-run_line-clause-seats g c = c.run_line.ensures.seats ∙ c.loop-line.invariant.3

pub returns-clause-said : goal.returns-clause-said
returns-clause-said g c = λ first done.
    let names = names_in c.args.floor.now.handlers in
    let so_far = c.loop-line.invariant.0 first done in (
      so_far.0,
      so_far.1,
      subst (λ (lines : List Line). AreSaid (known_by c.args.runtime.now names c.loop-line.floor.clients.passes.items) first lines so_far.0 (g.W.Write.contents c.args.writer.now) (g.W.Write.contents c.loop-line.writer))
          (take_all c.loop-line.line-index c.args.lines.now c.loop-line-test.false) so_far.2,
    )
