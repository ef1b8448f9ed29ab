use Rattle.std.proofs.Common.{Option, refl, sym, subst}
use Rattle.std.specs.Prelude.{IfErr, IfSome}
use Rattle.charmlet_stock.specs.Stock.{supplied_to}
use Rattle.charmlet_script_output.specs.Back.{CameBackWith}
use Rattle.charmlet_runtime.specs.Reopened.{core_to_be}
use Rattle.charmlet_runtime.specs.wanted.Wanted.{Wanted}
use Rattle.charmlet_cli_workers.specs.Heard.{names_in}
use Rattle.charmlet_cli_workers.specs.Restarts.{TellsRefusal}
use Rattle.charmlet_cli_workers.proofs.Leavings.{on_ok}
use Rattle.charmlet_cli_workers.proofs.Returnings.{back_with, counted_early, not_back, ran_early, ran_ok, refused_ends, uncounted_refused}
use Rattle.charmlet_cli_workers.proofs.restarted_run.restart_with.Goals as goal

pub run_reopened-requires-clause-restarted : goal.run_reopened-requires-clause-restarted
run_reopened-requires-clause-restarted g c = λ _ _. sym c.generation.ensures

pub run_reopened-requires-clause-enough : goal.run_reopened-requires-clause-enough
run_reopened-requires-clause-enough g c = λ _ _ kind. rw c.lines.ensures (c.requires.enough kind)

-- ---- the store went on

pub returns-in-Ok-run_reopened-clause-ran : goal.returns-in-Ok-run_reopened-clause-ran
returns-in-Ok-run_reopened-clause-ran g c =
    let its = c.in-Ok.ensures.ok in
    let ran = c.in-Ok-run_reopened.ran in
    let done = c.in-Ok-run_reopened.ensures in
    let script = c.args.script.now in
    ran_ok g.D.Disk c.args.processors c.args.prepared.blanks c.args.disk c.in-Ok.reopened its (done.over c.args.processors c.args.prepared.blanks c.args.disk its) c.generation.result c.event_count.result c.generation.ensures c.event_count.ensures
    (names_in c.args.prepared.given.handlers) script.handlers (λ i name. c.requires.handlers name i) c.lines.result.now script.lines c.lines.ensures ran.disk done.honest ran.result (g.W.Write.contents c.args.writer.now) (g.W.Write.contents c.run_reopened.new.writer) done.left

pub returns-in-Ok-run_reopened-clause-err : goal.returns-in-Ok-run_reopened-clause-err
returns-in-Ok-run_reopened-clause-err g c =
    let its = c.in-Ok.ensures.ok in
    let ran = c.in-Ok-run_reopened.ran in
    let done = c.in-Ok-run_reopened.ensures in
    let script = c.args.script.now in
    ran_early g.D.Disk c.args.processors c.args.prepared.blanks c.args.disk c.in-Ok.reopened its (done.over c.args.processors c.args.prepared.blanks c.args.disk its) c.generation.result c.event_count.result c.generation.ensures c.event_count.ensures
    (names_in c.args.prepared.given.handlers) script.handlers (λ i name. c.requires.handlers name i) c.lines.result.now script.lines c.lines.ensures ran.disk done.honest g.W.Write.contents c.args.writer.now c.run_reopened.new.writer ran.result done.left done.prints done.err

pub returns-in-Ok-run_reopened-clause-constructions : goal.returns-in-Ok-run_reopened-clause-constructions
returns-in-Ok-run_reopened-clause-constructions g c =
    let its = c.in-Ok.ensures.ok in
    let done = c.in-Ok-run_reopened.ensures in
    back_with g.D.Disk c.args.processors c.args.prepared.blanks c.args.disk (core_to_be c.in-Ok.reopened) its.unused (done.over c.args.processors c.args.prepared.blanks c.args.disk its) c.constructions.result c.constructions.ensures

pub returns-in-Ok-run_reopened-clause-counted : goal.returns-in-Ok-run_reopened-clause-counted
returns-in-Ok-run_reopened-clause-counted g c = on_ok c.in-Ok-run_reopened.ran.result refl

pub returns-in-Ok-run_reopened-clause-uncounted : goal.returns-in-Ok-run_reopened-clause-uncounted
returns-in-Ok-run_reopened-clause-uncounted g c =
    let ran = c.in-Ok-run_reopened.ran in
    counted_early g.D.Disk ran.disk c.args.writer.now c.run_reopened.new.writer ran.result c.constructions.result c.in-Ok-run_reopened.ensures.err

-- ---- it doesn't go on

pub returns-in-Err-run_reopened-clause-err : goal.returns-in-Err-run_reopened-clause-err
returns-in-Err-run_reopened-clause-err g c =
    let its = c.in-Ok.ensures.ok in
    let blanks = c.args.prepared.blanks in
    let refused = c.in-Err-run_reopened.refused in
    let done = c.in-Err-run_reopened.ensures in
    let ended = c.tell_refused.result in
    let after = c.tell_refused.new.writer in
    refused_ends g.D.Disk g.W.Write.contents c.args.processors (supplied_to blanks) c.args.disk ended.disk c.args.script.now.handlers c.args.script.now.lines refused.refusal c.args.writer.now after ended.result
    (subst (λ w. IfErr ended.result (TellsRefusal g.W.Write.contents refused.refusal w after)) done.silent c.tell_refused.ensures.err)
    (not_back g.D.Disk c.args.processors blanks c.args.disk refused its.unused (done.refused c.args.processors blanks c.args.disk its) ended.disk c.tell_refused.ensures.disk)

pub returns-in-Err-run_reopened-clause-constructions : goal.returns-in-Err-run_reopened-clause-constructions
returns-in-Err-run_reopened-clause-constructions g c =
    subst (λ (o : Option Wanted). IfSome o (CameBackWith g.D.Disk c.args.processors (supplied_to c.args.prepared.blanks) c.args.disk)) (sym c.tell_refused.ensures.uncounted) tt

pub returns-in-Err-run_reopened-clause-uncounted : goal.returns-in-Err-run_reopened-clause-uncounted
returns-in-Err-run_reopened-clause-uncounted g c =
    let ended = c.tell_refused.result in
    uncounted_refused g.D.Disk g.W.Write.contents c.in-Err-run_reopened.refused.refusal c.run_reopened.new.writer c.tell_refused.new.writer ended.result ended.constructions c.tell_refused.ensures.uncounted c.tell_refused.ensures.err

pub returns-in-Err-clause-err : goal.returns-in-Err-clause-err
returns-in-Err-clause-err g c =
    let blanks = c.args.prepared.blanks in
    let refused = c.in-Err.refused in
    let ended = c.tell_refused-in-Err.result in
    refused_ends g.D.Disk g.W.Write.contents c.args.processors (supplied_to blanks) c.args.disk ended.disk c.args.script.now.handlers c.args.script.now.lines refused.refusal c.args.writer.now c.tell_refused-in-Err.new.writer ended.result
    c.tell_refused-in-Err.ensures.err (not_back g.D.Disk c.args.processors blanks c.args.disk refused c.requires.unused c.in-Err.ensures.refused ended.disk c.tell_refused-in-Err.ensures.disk)

pub returns-in-Err-clause-constructions : goal.returns-in-Err-clause-constructions
returns-in-Err-clause-constructions g c =
    subst (λ (o : Option Wanted). IfSome o (CameBackWith g.D.Disk c.args.processors (supplied_to c.args.prepared.blanks) c.args.disk)) (sym c.tell_refused-in-Err.ensures.uncounted) tt

pub returns-in-Err-clause-uncounted : goal.returns-in-Err-clause-uncounted
returns-in-Err-clause-uncounted g c =
    let ended = c.tell_refused-in-Err.result in
    uncounted_refused g.D.Disk g.W.Write.contents c.in-Err.refused.refusal c.args.writer.now c.tell_refused-in-Err.new.writer ended.result ended.constructions c.tell_refused-in-Err.ensures.uncounted c.tell_refused-in-Err.ensures.err
