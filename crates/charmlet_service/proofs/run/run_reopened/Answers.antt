use Rattle.std.proofs.Common.{sym, ap, subst, ◌∙◌}
use Rattle.charmlet_workers.specs.Runtime.{RuntimeShown, shown_of}
use Rattle.charmlet_engine.specs.Reopened.{ReopenedShown}
use Rattle.charmlet_service.specs.Serving.{IsRunOver}
use Rattle.charmlet_service.proofs.Left.{left_of}
use Rattle.charmlet_service.proofs.run.run_reopened.Goals as goal

pub returns-in-Ok : goal.returns-in-Ok
returns-in-Ok g c = λ processors blanks first its.
    let over = c.in-Ok.ensures.restarts processors blanks first its in
    let still = λ (honest : g.D.Disk.honest first). subst g.D.Disk.honest (sym (ap (λ (r : ReopenedShown _). r.disk) its.is)) (its.after.honest.0 honest) in
    let run = left_of g.D.Disk (λ honest. c.requires.only_honest (still honest)) c.run_over.ensures in (
      over.engine,
      over.restarted,
      subst (λ (v : RuntimeShown). IsRunOver g.D.Disk (g.D.Disk.honest first) v c.run_over.result.disk) (over.shown ∙ sym (ap shown_of over.core_is)) run,
    )

pub returns-in-Err : goal.returns-in-Err
returns-in-Err g c = λ processors blanks first its. c.in-Err.ensures.restarts processors blanks first its
