use Rattle.std.proofs.Common.{◌≡◌, ◌≤◌, true, false, rules, refl, sym, subst}
use Rattle.std.specs.Prelude.{IfSome}
use Rattle.charmlet_model.specs.Core.{Blanks}
use Rattle.charmlet_script.specs.Script.{blanks_of}
use Rattle.charmlet_stock.specs.Stock.{supplied_to}
use Rattle.charmlet_script_output.specs.Back.{CameBackWith, given_of}
use Rattle.charmlet_cli.specs.Restarted.{IsRestarted}
use Rattle.charmlet_script_output.proofs.Results.{on_ok, ok_map}
use Rattle.charmlet_cli.proofs.Restarts.{restart_ends}
use Rattle.charmlet_script_output.proofs.Enough.{is_enough, is_too_few}
use Rattle.charmlet_cli.proofs.restarted_run.restart_script.Goals as goal

pub returns-then-not-has_enough-clause-err : goal.returns-then-not-has_enough-clause-err
returns-then-not-has_enough-clause-err g c =
    let not_enough : c.has_enough.result ≡ false = search rules in (
      refl,
      refl,
      refl,
      refl,
      is_too_few g.C.Chare.state c.supplied_at_restart.result c.args.script.now.lines c.as_slice.result.now c.args.supplies.items c.as_slice.ensures.value c.supplied_at_restart.ensures c.has_enough.result c.has_enough.ensures not_enough,
    )

pub restart_with-requires-clause-enough : goal.restart_with-requires-clause-enough
restart_with-requires-clause-enough g c = λ _ _ kind.
    let is : c.has_enough.result ≡ true = search rules in
    let enough = is_enough g.C.Chare.state c.supplied_at_restart.result c.args.script.now.lines c.as_slice.result.now c.args.supplies.items c.as_slice.ensures.value c.supplied_at_restart.ensures c.has_enough.result c.has_enough.ensures is in
    subst (λ n. blanks_of kind c.args.script.now.lines ≤ n) (sym (c.in-Ok.ensures.source kind)) (enough kind)

pub returns-in-Ok-clause-enough : goal.returns-in-Ok-clause-enough
returns-in-Ok-clause-enough g c =
    let is : c.has_enough.result ≡ true = search rules in
    on_ok c.restart_with.result.result
    (is_enough g.C.Chare.state c.supplied_at_restart.result c.args.script.now.lines c.as_slice.result.now c.args.supplies.items c.as_slice.ensures.value c.supplied_at_restart.ensures c.has_enough.result c.has_enough.ensures is)

pub returns-in-Ok-clause-ran : goal.returns-in-Ok-clause-ran
returns-in-Ok-clause-ran g c =
    let prepared = c.in-Ok.prepared in
    let same : supplied_to prepared.given ≡ given_of g.C.Chare.state c.args.blanks.items = λ i kind. c.in-Ok.ensures.given kind i in
    let old = g.W.Write.contents c.args.writer.now in
    let new = g.W.Write.contents c.restart_with.new.writer in
    let end = c.restart_with.result.disk in
    ok_map c.restart_with.result.result
    (λ run. subst (λ (given : Blanks). IsRestarted g.D.Disk c.args.processors given c.args.disk end c.args.script.now old new) same run) c.restart_with.ensures.ran

pub returns-in-Ok-clause-err : goal.returns-in-Ok-clause-err
returns-in-Ok-clause-err g c =
    let is : c.has_enough.result ≡ true = search rules in
    let enough = is_enough g.C.Chare.state c.supplied_at_restart.result c.args.script.now.lines c.as_slice.result.now c.args.supplies.items c.as_slice.ensures.value c.supplied_at_restart.ensures c.has_enough.result c.has_enough.ensures is in
    let prepared = c.in-Ok.prepared in
    let same : supplied_to prepared.given ≡ given_of g.C.Chare.state c.args.blanks.items = λ i kind. c.in-Ok.ensures.given kind i in
    let old = g.W.Write.contents c.args.writer.now in
    let new = g.W.Write.contents c.restart_with.new.writer in
    let ended = c.restart_with.result in
    restart_ends g.D.Disk g.C.Chare.state g.W.Write.contents c.args.processors (supplied_to prepared.given) c.args.disk ended.disk c.args.blanks.items c.args.supplies.items c.args.script.now c.args.writer.now c.restart_with.new.writer ended.result enough same
    c.restart_with.ensures.err

pub returns-in-Ok-clause-constructions : goal.returns-in-Ok-clause-constructions
returns-in-Ok-clause-constructions g c =
    let prepared = c.in-Ok.prepared in
    let same : supplied_to prepared.given ≡ given_of g.C.Chare.state c.args.blanks.items = λ i kind. c.in-Ok.ensures.given kind i in
    subst (λ (given : Blanks). IfSome c.restart_with.result.constructions (CameBackWith g.D.Disk c.args.processors given c.args.disk)) same c.restart_with.ensures.constructions

pub returns-in-Err-clause-err : goal.returns-in-Err-clause-err
returns-in-Err-clause-err g c =
    let is : c.has_enough.result ≡ true = search rules in (
      refl,
      is_enough g.C.Chare.state c.supplied_at_restart.result c.args.script.now.lines c.as_slice.result.now c.args.supplies.items c.as_slice.ensures.value c.supplied_at_restart.ensures c.has_enough.result c.has_enough.ensures is,
      refl,
    )
