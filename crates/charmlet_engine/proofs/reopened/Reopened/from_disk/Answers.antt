use Rattle.std.proofs.Common.{inl, refl, sym, ap, ◌∙◌}
use Rattle.charmlet_model.specs.Core.{Core}
use Rattle.charmlet_model.specs.Sound.{opened}
use Rattle.charmlet_disk.specs.Disk.{faults_after}
use Rattle.charmlet_disk.specs.File.{MayLeave}
use Rattle.charmlet_disk.proofs.Moments.{weaker}
use Rattle.charmlet_stock.specs.Stock.{blanks_in}
use Rattle.charmlet_recover.specs.declared.restarted.Recovered.{Recovered}
use Rattle.charmlet_recover.specs.Restart as recovers
use Rattle.charmlet_recover.specs.Restart.{bytes_on}
use Rattle.charmlet_engine.specs.Restarted.{IsLeftByRestart}
use Rattle.charmlet_engine.proofs.Renewed.{failed_alike}
use Rattle.charmlet_engine.proofs.Reopenings.{counted_where}
use Rattle.charmlet_engine.proofs.Restarts.{restart_answers, restart_is_engine, restart_is_not_full}
use Rattle.charmlet_engine.proofs.reopened.Reopened.from_disk.Goals as goal

-- ---- the store came back

pub invariant_of-result : goal.invariant_of-result
invariant_of-result g c =
    let old = recovers.core_of c.in-Ok.back in
    let done = c.in-Ok.ensures in
    let was = done.disk.honest.1 in
    record {
      opens = done.ok.opens ∙ ap (λ n. opened n old.opening old.before old.generation old.log_end) (sym (ap (λ (k : Core). k.processors) done.ok.opens));
      keeping = done.ok.keeping;
      goes_on = done.ok.goes_on;
      keeps = λ honest. (done.files (was honest)).keeps;
      current = λ honest. (done.files (was honest)).current;
    }

pub returns-in-Ok-clause-ok : goal.returns-in-Ok-clause-ok
returns-in-Ok-clause-ok g c =
    let done = c.in-Ok.ensures in
    let counted = counted_where c.args.processors (λ bad. done.bad bad) in
    record {
      back = c.in-Ok.back;
      is = refl;
      counted = counted;
      unused = c.requires.unused;
      came = done.ok;
      files = done.files;
      lawful = done.lawful;
      fits = λ honest. done.answer honest counted;
      leaves = done.leaves;
      after = done.disk;
    }

-- ---- none did

pub returns-in-Err-clause-refused : goal.returns-in-Err-clause-refused
returns-in-Err-clause-refused g c =
    let done = c.in-Err.ensures in
    let refused = c.in-Err.refused in
    let files = g.D.Disk.file c.args.disk in
    record {
      ok = tt;
      files = λ honest. tt;
      remembers = λ honest past old new remembered on sound lawful. tt;
      lawful = λ honest w before history durable lawful. inl (done.lawful honest w before history durable lawful);
      answer = λ honest good. restart_answers (Recovered g.row.D.Denot g.row.C.Denot g.D.Disk) Core (blanks_in c.args.blanks) (bytes_on files) refused.refusal (done.answer honest good);
      bad = done.bad;
      err = record {
        bad = done.err.bad;
        known = restart_is_engine refused.refusal done.err.known;
        short = done.err.short;
        full = restart_is_not_full refused.refusal done.err.known;
        back = done.err.back;
      };
      leaves = λ honest.
          let leaves = done.leaves honest in
          record {
            settled = leaves.settled;
            still = λ none. leaves.unwritten;
            unwritten = λ other. leaves.unwritten;
            any_moment = weaker g.D.Disk.moment g.D.Disk.since c.args.disk refused.disk (MayLeave files) (IsLeftByRestart files) leaves.unwritten.any_moment (λ o left. inl left);
          };
      after = record {
        honest = done.disk.honest;
        counted = done.disk.counted
            ∙ ap (λ b. faults_after b (g.D.Disk.faults c.args.disk)) (failed_alike (Recovered g.row.D.Denot g.row.C.Denot g.D.Disk) Core refused.refusal);
      };
    }

pub returns-in-Err-clause-unwritten : goal.returns-in-Err-clause-unwritten
returns-in-Err-clause-unwritten g c = λ honest. (c.in-Err.ensures.leaves honest).unwritten
