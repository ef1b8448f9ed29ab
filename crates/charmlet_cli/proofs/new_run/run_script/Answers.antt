use Rattle.charmlet_cli.proofs.Endings.{run_ends}
use Rattle.charmlet_cli.proofs.new_run.run_script.Goals as goal

pub returns-in-Ok-clause-err : goal.returns-in-Ok-clause-err
returns-in-Ok-clause-err g c =
    let ran = c.run_in_new_store.result in
    run_ends g.D.Disk g.C.Chare.state g.W.Write.contents c.args.disk ran.disk c.args.blanks.items c.args.script.now c.args.writer.now c.run_in_new_store.new.writer ran.result c.in-Ok.ensures.enough c.run_in_new_store.ensures.err
