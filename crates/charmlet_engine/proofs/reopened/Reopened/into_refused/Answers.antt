use Rattle.std.proofs.Common.{Err, inl, sym, ap, subst}
use Rattle.charmlet_model.specs.declared.refusal.Refusal.TheVariants as refusals
use Rattle.charmlet_store.specs.Store.{supplied_in}
use Rattle.charmlet_replay.proofs.OpenHalves.{supplied_back, unused_back}
use Rattle.charmlet_recover.specs.declared.restarted.NotRestarted.{NotRestarted}
use Rattle.charmlet_engine.specs.Reopened.{ReopenedShown}
use Rattle.charmlet_engine.proofs.Reopenings.{GoneOn, restarted}
use Rattle.charmlet_engine.proofs.reopened.Reopened.into_refused.Goals as goal

pub returns-clause-restarts : goal.returns-clause-restarts
returns-clause-restarts g c = λ processors blanks first its.
    let back = c.self.inside.back in
    let same = c.into_disk.ensures in
    let out : NotRestarted g.row.D.Denot g.row.C.Denot g.C.Chare = record { refusal = refusals.Memory; disk = c.into_disk.result; blanks = c.take_back.result } in
    restarted g.D.Disk processors blanks first c.args.self its (Err out)
    (subst (λ (v : ReopenedShown g.row.D.Denot). GoneOn g.D.Disk v (Err out)) c.self.view_is (record {
      core = tt;
      blanks = tt;
      supplied = tt;
      stays = λ current. tt;
      still = λ current. same;
      image = λ honest old. tt;
      now = λ honest. tt;
      settled = λ honest. tt;
      answer = tt;
      unused = unused_back c.take_back.result (supplied_in back.store) c.take_back.ensures.tally c.take_back.ensures.keeping;
      kept = supplied_back c.take_back.result (supplied_in back.store) c.take_back.ensures.tally;
      refused = λ other. same;
      written = λ honest. inl same;
      disk = record {
        honest = ((λ h. subst g.D.Disk.honest (sym same) h), (λ h. subst g.D.Disk.honest same h));
        counted = ap g.D.Disk.faults same;
      };
    }))
