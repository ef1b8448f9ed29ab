use Rattle.std.proofs.Common.{refl, ap, subst, ◌∙◌}
use Rattle.std.specs.Prelude.{IfSome}
use Rattle.charmlet_workers.specs.Runtime.{RuntimeShown}
use Rattle.charmlet_cli_workers.specs.Heard.{names_in}
use Rattle.charmlet_cli_workers.specs.Left.{IsLeft, PrintsOver}
use Rattle.charmlet_cli_workers.proofs.Leavings.{some_on}
use Rattle.charmlet_cli_workers.proofs.opened.run_reopened.Goals as goal

pub run_opened-requires-clause-restarted : goal.run_opened-requires-clause-restarted
run_opened-requires-clause-restarted g c = λ _ _. ap (λ (v : RuntimeShown). v.generation) c.in-Ok.ensures.shown ∙ c.requires.restarted

pub returns-in-Ok-clause-left : goal.returns-in-Ok-clause-left
returns-in-Ok-clause-left g c =
    let lines = c.args.lines.now in
    let was = g.W.Write.contents c.args.writer.now in
    let now = g.W.Write.contents c.run_opened.new.writer in
    let names = names_in c.args.given.handlers in
    subst (λ (v : RuntimeShown). IfSome c.run_opened.result.disk (IsLeft g.D.Disk v.opening v.before v.processors (λ last. PrintsOver c.run_opened.result.result lines.restarted last names lines.lines.now was now))) c.in-Ok.ensures.shown c.run_opened.ensures.left

pub returns-in-Ok-clause-honest : goal.returns-in-Ok-clause-honest
returns-in-Ok-clause-honest g c =
    some_on (λ disk. g.B.RuntimeName.honest → g.D.Disk.honest disk) (λ disk. g.D.Disk.honest c.args.reopened.disk → g.D.Disk.honest disk) c.run_opened.result.disk (λ disk still honest. still (c.requires.only_honest honest)) c.run_opened.ensures.honest

pub returns-in-Ok-clause-over : goal.returns-in-Ok-clause-over
returns-in-Ok-clause-over g c = λ processors blanks first its.
    let over = c.in-Ok.ensures.restarts processors blanks first its in
    record { engine = over.engine; restarted = over.restarted; core_is = over.core_is; shown = refl }
