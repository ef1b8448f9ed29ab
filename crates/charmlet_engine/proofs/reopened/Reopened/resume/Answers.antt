use Rattle.std.proofs.Common.{subst}
use Rattle.charmlet_recover.specs.Restart as recovers
use Rattle.charmlet_engine.specs.Reopened.{ReopenedShown}
use Rattle.charmlet_engine.proofs.Reopenings.{GoneOn, all_known, all_on, all_opened, all_written, restarted}
use Rattle.charmlet_engine.proofs.Restarts.{on_disk}
use Rattle.charmlet_engine.proofs.reopened.Reopened.resume.Goals as goal

pub returns-clause-opens : goal.returns-clause-opens
returns-clause-opens g c = (let back = c.self.inside.back in all_opened back.is_current (recovers.core_of back) c.self.invariant.opens c.resume.result c.resume.ensures.core)

pub returns-clause-err : goal.returns-clause-err
returns-clause-err g c = (let back = c.self.inside.back in all_known back.is_current (recovers.core_of back) c.resume.result c.resume.ensures.answer)

pub returns-clause-restarts : goal.returns-clause-restarts
returns-clause-restarts g c = λ processors blanks first its.
    let on = c.resume.ensures in
    let back = c.self.inside.back in
    restarted g.D.Disk processors blanks first c.args.self its c.resume.result
    (subst (λ (v : ReopenedShown g.row.D.Denot). GoneOn g.D.Disk v c.resume.result) c.self.view_is (record {
      core = on.core;
      blanks = on.blanks;
      supplied = on.supplied;
      stays = λ current. all_on back.halves c.resume.result (on.stays current);
      still = λ current. on_disk back.halves c.resume.result (on.stays current);
      image = on.image;
      now = on.now;
      settled = on.settled;
      answer = on.answer;
      unused = on.back;
      kept = on.kept;
      refused = on.refused;
      written = λ honest. all_written back.halves (recovers.core_of back) c.resume.result back.is_current on.stays (on.stored honest);
      disk = on.disk;
    }))
