use Rattle.std.proofs.Common.{rules, ◌≡◌, Some, true, false, refl, sym, ap, subst, ◌∙◌}
use Rattle.std.specs.Prelude.{IfSome}
use Rattle.charmlet_model.specs.Core.{Blanks, Core}
use Rattle.charmlet_stock.specs.Stock.{blanks_in, supplied_to}
use Rattle.charmlet_script_output.specs.Back.{CameBackWith, given_of}
use Rattle.charmlet_script_output.proofs.Results.{ok_map}
use Rattle.charmlet_script_output.proofs.Enough.{is_enough, is_too_few}
use Rattle.charmlet_cli_workers.specs.Lines.{has_delivery}
use Rattle.charmlet_cli_workers.specs.Restarts.{IsBackByWorkers, line_of}
use Rattle.charmlet_cli_workers.specs.Said.{HaveRun}
use Rattle.charmlet_cli_workers.proofs.Beginnings.{enough_in}
use Rattle.charmlet_cli_workers.proofs.Leavings.{on_ok}
use Rattle.charmlet_cli_workers.proofs.Returnings.{back_ends}
use Rattle.charmlet_cli_workers.proofs.restarted_run.restart_workers.Goals as goal

pub returns-then-has_delivery-clause-err : goal.returns-then-has_delivery-clause-err
returns-then-has_delivery-clause-err g c = (refl, refl, refl, refl, sym (c.has_delivery.ensures ∙ ap has_delivery c.lines.ensures) ∙ c.if-has_delivery.true)

pub returns-then-not-has_enough-clause-err : goal.returns-then-not-has_enough-clause-err
returns-then-not-has_enough-clause-err g c =
    let not_enough : c.has_enough.result ≡ false = search rules in (
      refl,
      refl,
      refl,
      refl,
      sym (c.has_delivery.ensures ∙ ap has_delivery c.lines.ensures) ∙ c.if-has_delivery.false,
      is_too_few g.C.Chare.state c.supplied_at_restart.result c.args.script.now.lines c.as_slice.result.now c.args.supplies.items c.as_slice.ensures.value c.supplied_at_restart.ensures c.has_enough.result c.has_enough.ensures not_enough,
    )

pub restart_with-requires-clause-enough : goal.restart_with-requires-clause-enough
restart_with-requires-clause-enough g c = λ _ _.
    let is : c.has_enough.result ≡ true = search rules in
    enough_in g.C.Chare.state c.args.supplies.items c.args.script.now.lines (blanks_in c.in-Ok.prepared.given.source)
    (is_enough g.C.Chare.state c.supplied_at_restart.result c.args.script.now.lines c.as_slice.result.now c.args.supplies.items c.as_slice.ensures.value c.supplied_at_restart.ensures c.has_enough.result c.has_enough.ensures is) c.in-Ok.ensures.source

pub returns-in-Ok-clause-fit : goal.returns-in-Ok-clause-fit
returns-in-Ok-clause-fit g c =
    let is : c.has_enough.result ≡ true = search rules in
    on_ok c.restart_with.result.result (
      sym (c.has_delivery.ensures ∙ ap has_delivery c.lines.ensures) ∙ c.if-has_delivery.false,
      is_enough g.C.Chare.state c.supplied_at_restart.result c.args.script.now.lines c.as_slice.result.now c.args.supplies.items c.as_slice.ensures.value c.supplied_at_restart.ensures c.has_enough.result c.has_enough.ensures is,
    )

pub returns-in-Ok-clause-ran : goal.returns-in-Ok-clause-ran
returns-in-Ok-clause-ran g c =
    let same : supplied_to c.in-Ok.prepared.blanks ≡ given_of g.C.Chare.state c.args.blanks.items = λ i kind. c.in-Ok.ensures.given kind i in
    let printed : (back last : Core) → Type 0 = λ back last. HaveRun (Some (line_of back)) last c.args.script.now.handlers c.args.script.now.lines (g.W.Write.contents c.args.writer.now) (g.W.Write.contents c.restart_with.new.writer) in
    ok_map c.restart_with.result.result (λ back. subst (λ (given : Blanks). IsBackByWorkers g.D.Disk c.args.processors given c.args.disk c.restart_with.result.disk printed (λ back. Unit {0})) same back) c.restart_with.ensures.ran

pub returns-in-Ok-clause-err : goal.returns-in-Ok-clause-err
returns-in-Ok-clause-err g c =
    let same : supplied_to c.in-Ok.prepared.blanks ≡ given_of g.C.Chare.state c.args.blanks.items = λ i kind. c.in-Ok.ensures.given kind i in
    let ended = c.restart_with.result in
    back_ends g.D.Disk g.C.Chare.state g.W.Write.contents c.args.processors (supplied_to c.in-Ok.prepared.blanks) c.args.disk ended.disk c.args.blanks.items c.args.supplies.items c.args.script.now.handlers c.args.script.now.lines c.args.writer.now c.restart_with.new.writer ended.result same
    c.restart_with.ensures.err

pub returns-in-Ok-clause-constructions : goal.returns-in-Ok-clause-constructions
returns-in-Ok-clause-constructions g c =
    let same : supplied_to c.in-Ok.prepared.blanks ≡ given_of g.C.Chare.state c.args.blanks.items = λ i kind. c.in-Ok.ensures.given kind i in
    subst (λ (given : Blanks). IfSome c.restart_with.result.constructions (CameBackWith g.D.Disk c.args.processors given c.args.disk)) same c.restart_with.ensures.constructions

pub returns-in-Err-clause-err : goal.returns-in-Err-clause-err
returns-in-Err-clause-err g c =
    let is : c.has_enough.result ≡ true = search rules in (
      refl,
      refl,
      (
        sym (c.has_delivery.ensures ∙ ap has_delivery c.lines.ensures) ∙ c.if-has_delivery.false,
        is_enough g.C.Chare.state c.supplied_at_restart.result c.args.script.now.lines c.as_slice.result.now c.args.supplies.items c.as_slice.ensures.value c.supplied_at_restart.ensures c.has_enough.result c.has_enough.ensures is,
      ),
    )
