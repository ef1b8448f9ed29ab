use Rattle.std.proofs.Common.{◌≡◌, refl, sym, subst}
use Rattle.std.specs.Prelude.{Err}
use Rattle.charmlet_halves.proofs.Quiet.{not_read, unwritten_by_reads}
use Rattle.charmlet_recovery.specs.Recovered as files
use Rattle.charmlet_stock.specs.Stock.{blanks_in, supplied_to}
use Rattle.charmlet_recover.specs.declared.restarted.Recovered.{Recovered}
use Rattle.charmlet_recover.specs.Restart.{CameFromFiles, LeavesSynced, are_counts, bytes_on, core_of, is_after_sync, restarted_or_refused}
use Rattle.charmlet_recover.proofs.Answered.{none_is_short, taken_answers, unfound_answers}
use Rattle.charmlet_recover.proofs.Crashed.{answers_after_crash}
use Rattle.charmlet_recover.proofs.Kept.{survey_found}
use Rattle.charmlet_recover.proofs.RestartedLemmas.{all_came_back, all_from_files, all_refused, as_answer, finding_is_not_bad, finding_is_restart, then_ok}
use Rattle.charmlet_recover.proofs.Stocks.{stock_is_same}
use Rattle.charmlet_recover.proofs.restarted.restart_by.Goals as goal

pub returns-then-not-are_counts-clause-leaves : goal.returns-then-not-are_counts-clause-leaves
returns-then-not-are_counts-clause-leaves g c = λ honest.
    let laws = g.met.D.Disk g.world.𝓛 g.world.𝓜 g.world.𝓡 ((λ s x. x), (λ x. x), (λ x. x), (λ x. x)) in
    let disk = c.args.disk in
    record {
      settled = λ after. absurd cc;
      unwritten = unwritten_by_reads g.D.Disk disk disk (not_read g.D.Disk disk (λ o left. laws.only_now disk o honest left));
    }

-- ---- halves were opened

pub returns-in-Ok-clause-ok : goal.returns-in-Ok-clause-ok
returns-in-Ok-clause-ok g c =
    let reads = c.in-Ok.ensures.reads in
    let done = c.restart_from.ensures in
    all_came_back c.in-Ok.opened reads.0.0 reads.0.1 reads.1 c.args.processors (blanks_in c.args.blanks) (supplied_to c.args.blanks) c.restart_from.result
    done.halves (done.ok reads.0.0 reads.0.1.found) done.supplied done.keeping

pub returns-in-Ok-clause-files : goal.returns-in-Ok-clause-files
returns-in-Ok-clause-files g c = λ honest.
    let opens = c.in-Ok.ensures in
    let reads = opens.reads in
    let done = c.restart_from.ensures in
    all_from_files c.in-Ok.opened reads.0.0 reads.0.1 reads.1 c.args.processors (blanks_in c.args.blanks) (g.D.Disk.file c.args.disk) (opens.finds honest)
    (opens.leaves honest).unwritten.same (opens.text honest reads.0.0 reads.0.1) (opens.disk.honest.0 honest) c.restart_from.result done.halves (done.ok reads.0.0 reads.0.1.found)

pub returns-in-Ok-clause-answer : goal.returns-in-Ok-clause-answer
returns-in-Ok-clause-answer g c = λ honest good.
    let reads = c.in-Ok.ensures.reads in
    let old = g.D.Disk.file c.args.disk in
    taken_answers (blanks_in c.args.blanks) (bytes_on old) c.in-Ok.opened.survey.half reads.0.0 (survey_found old c.in-Ok.opened.survey reads.0.0 (c.in-Ok.ensures.finds honest) reads.0.1).1
    (restarted_or_refused c.restart_from.result) (c.restart_from.ensures.answer reads.0.0 reads.0.1.found)

pub returns-in-Ok-clause-lawful : goal.returns-in-Ok-clause-lawful
returns-in-Ok-clause-lawful g c = λ honest w before history durable lawful.
    let reads = c.in-Ok.ensures.reads in
    let old = g.D.Disk.file c.args.disk in
    let found = then_ok (CameFromFiles (blanks_in c.args.blanks) (bytes_on old)) (λ back. files.recovered (bytes_on old) ≡ files.Found (core_of back).opening (core_of back).before (core_of back).generation)
    c.restart_from.result (λ back is. is.found) (returns-in-Ok-clause-files g c honest) in
    answers_after_crash w before history durable (bytes_on old) lawful (blanks_in c.args.blanks) (restarted_or_refused c.restart_from.result)
    (taken_answers (blanks_in c.args.blanks) (bytes_on old) c.in-Ok.opened.survey.half reads.0.0 (survey_found old c.in-Ok.opened.survey reads.0.0 (c.in-Ok.ensures.finds honest) reads.0.1).1
    (restarted_or_refused c.restart_from.result) (c.restart_from.ensures.answer reads.0.0 reads.0.1.found))
    (as_answer (λ back. files.recovered (bytes_on old) ≡ files.Found (core_of back).opening (core_of back).before (core_of back).generation) c.restart_from.result found)

pub returns-in-Ok-clause-err : goal.returns-in-Ok-clause-err
returns-in-Ok-clause-err g c =
    let reads = c.in-Ok.ensures.reads in
    let done = c.restart_from.ensures in
    all_refused (are_counts c.args.processors c.args.workers) c.args.blanks c.in-Ok.opened.survey.half c.in-Ok.opened.survey.bytes.items reads.0.0 reads.0.1.found c.restart_from.result (done.answer reads.0.0 reads.0.1.found) done.err done.back

pub returns-in-Ok-clause-leaves : goal.returns-in-Ok-clause-leaves
returns-in-Ok-clause-leaves g c = λ honest.
    let leaves = c.in-Ok.ensures.leaves honest in
    subst (λ disk. LeavesSynced g.D.Disk c.args.disk disk (is_after_sync (restarted_or_refused c.restart_from.result))) (sym c.restart_from.ensures.disk)
    (record { settled = λ after. leaves.settled refl; unwritten = leaves.unwritten })

-- ---- none were

pub returns-in-Err-clause-answer : goal.returns-in-Err-clause-answer
returns-in-Err-clause-answer g c = λ honest good.
    unfound_answers (Recovered g.row.D.Denot g.row.C.Denot g.D.Disk) (blanks_in c.args.blanks) (bytes_on (g.D.Disk.file c.args.disk)) c.in-Err.field-0.refusal (c.in-Err.ensures.finds honest)

pub returns-in-Err-clause-lawful : goal.returns-in-Err-clause-lawful
returns-in-Err-clause-lawful g c = λ honest w before history durable lawful.
    let outcome = bytes_on (g.D.Disk.file c.args.disk) in
    answers_after_crash {D = g.row.D.Denot} {C = g.row.C.Denot} {G = g.D.Disk} w before history durable outcome lawful (blanks_in c.args.blanks) (Err c.in-Err.field-0.refusal)
    (unfound_answers (Recovered g.row.D.Denot g.row.C.Denot g.D.Disk) (blanks_in c.args.blanks) outcome c.in-Err.field-0.refusal (c.in-Err.ensures.finds honest)) tt

pub returns-in-Err-clause-err : goal.returns-in-Err-clause-err
returns-in-Err-clause-err g c =
    let refusal = c.in-Err.field-0.refusal in
    record {
      bad = λ bad. absurd (finding_is_not_bad refusal c.in-Err.ensures.err bad);
      known = finding_is_restart refusal c.in-Err.ensures.err;
      short = none_is_short (blanks_in c.args.blanks) refusal c.in-Err.ensures.err;
      back = stock_is_same c.args.blanks;
    }
