use Rattle.std.proofs.Common.{rules, ◌≡◌, List, [], sym, subst}
use Rattle.charmlet_log_scan.specs.declared.partition.task.Task.{Task}
use Rattle.charmlet_replayers.specs.Replayer.Tasks.{CanDo}
use Rattle.charmlet_replayers.proofs.ReplayerLemmas.ReplayerLemmas.{done_again}
use Rattle.charmlet_replayers.proofs.replayer.each.redo_replayer.Goals as goal

pub redo_all-requires-clause-can : goal.redo_all-requires-clause-can
redo_all-requires-clause-can g c κs within =
    let is : c.args.replayer.now.tasks.items ≡ c.replace-tasks.result.items = λ i. (sym c.replace-tasks.ensures.value i).items in
    (c.requires.records, subst (λ (ts : List Task). CanDo c.args.manifest.now c.args.replayer.now.restored ts c.requires.records) is c.requires.can)

pub returns : goal.returns
returns g c =
    let none : c.replace-tasks.new.dest.items ≡ [] = search rules in
    done_again c.args.manifest.now c.args.replayer.now _ c.redo_all.result c.stop_of-replayer.ensures c.redo_all.ensures.held c.redo_all.ensures.processors c.redo_all.ensures.supplied
    c.replace-tasks.result.items (λ i. (c.replace-tasks.ensures.value i).items)
    (λ records can. c.redo_all.ensures.ok records can)
    c.redo_all.ensures.blanks
    (λ records can fault is. c.redo_all.ensures.fault records can fault is)
    (λ records can. c.redo_all.ensures.replies records can)
    none
