use Rattle.charmlet_stock.specs.Stock.{blanks_in}
use Rattle.charmlet_cli_workers.proofs.Beginnings.{enough_in, lacks_ends, made_ends}
use Rattle.charmlet_cli_workers.proofs.Leavings.{on_ok}
use Rattle.charmlet_cli_workers.proofs.new_run.run_workers.Goals as goal

pub run_in_new_store-requires-clause-enough : goal.run_in_new_store-requires-clause-enough
run_in_new_store-requires-clause-enough g c = λ _ _. enough_in g.C.Chare.state c.args.blanks.items c.args.script.now.lines (blanks_in c.in-Ok.prepared.given.source) c.in-Ok.ensures.fit.1 c.in-Ok.ensures.source

pub returns-in-Ok-clause-fit : goal.returns-in-Ok-clause-fit
returns-in-Ok-clause-fit g c = on_ok c.run_in_new_store.result.result c.in-Ok.ensures.fit

pub returns-in-Ok-clause-err : goal.returns-in-Ok-clause-err
returns-in-Ok-clause-err g c =
    let ran = c.run_in_new_store.result in
    made_ends g.D.Disk g.C.Chare.state g.W.Write.contents c.args.disk ran.disk c.args.blanks.items c.args.script.now c.args.writer.now c.run_in_new_store.new.writer ran.result c.in-Ok.ensures.fit c.run_in_new_store.ensures.err

pub returns-in-Err-clause-err : goal.returns-in-Err-clause-err
returns-in-Err-clause-err g c = lacks_ends g.D.Disk g.C.Chare.state g.W.Write.contents c.args.disk c.args.blanks.items c.args.script.now c.args.writer.now c.in-Err.error c.in-Err.ensures.err
