use Rattle.std.proofs.Common.{rules, ◌≡◌, true, false, refl, sym, ap, ◌∙◌}
use Rattle.charmlet_script_output.proofs.Enough.{is_enough, is_too_few}
use Rattle.charmlet_cli_workers.specs.Lines.{has_delivery}
use Rattle.charmlet_cli_workers.proofs.new_run.prepare.Goals as goal

pub returns-then-has_delivery-clause-err : goal.returns-then-has_delivery-clause-err
returns-then-has_delivery-clause-err g c = (refl, sym (c.has_delivery.ensures ∙ ap has_delivery c.lines.ensures) ∙ c.if-has_delivery.true)

pub returns-then-not-has_enough-clause-err : goal.returns-then-not-has_enough-clause-err
returns-then-not-has_enough-clause-err g c =
    let not_enough : c.has_enough.result ≡ false = search rules in (
      refl,
      sym (c.has_delivery.ensures ∙ ap has_delivery c.lines.ensures) ∙ c.if-has_delivery.false,
      is_too_few g.C.Chare.state c.supplied_by.result c.args.script.now.lines c.as_slice.result.now c.args.blanks.items c.as_slice.ensures.value c.supplied_by.ensures c.has_enough.result c.has_enough.ensures not_enough,
    )

pub returns-in-Ok-clause-fit : goal.returns-in-Ok-clause-fit
returns-in-Ok-clause-fit g c =
    let is : c.has_enough.result ≡ true = search rules in (
      sym (c.has_delivery.ensures ∙ ap has_delivery c.lines.ensures) ∙ c.if-has_delivery.false,
      is_enough g.C.Chare.state c.supplied_by.result c.args.script.now.lines c.as_slice.result.now c.args.blanks.items c.as_slice.ensures.value c.supplied_by.ensures c.has_enough.result c.has_enough.ensures is,
    )

pub returns-in-Err-clause-err : goal.returns-in-Err-clause-err
returns-in-Err-clause-err g c =
    let is : c.has_enough.result ≡ true = search rules in (
      sym (c.has_delivery.ensures ∙ ap has_delivery c.lines.ensures) ∙ c.if-has_delivery.false,
      is_enough g.C.Chare.state c.supplied_by.result c.args.script.now.lines c.as_slice.result.now c.args.blanks.items c.as_slice.ensures.value c.supplied_by.ensures c.has_enough.result c.has_enough.ensures is,
    )
