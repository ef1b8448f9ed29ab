use Rattle.std.proofs.Common.{◌≡◌, false, true, sym, subst, ◌∙◌}
use Rattle.std.proofs.lemmas.Result.{IfErr-weaker, IfOk-weaker}
use Rattle.charmlet_model.specs.declared.refusal.Refusal.TheVariants as refusals
use Rattle.charmlet_model.specs.declared.kind.Kind.{Kind}
use Rattle.charmlet_model.specs.Shelves.{count_of}
use Rattle.charmlet_recovery.specs.Restarts.{engine_refusal}
use Rattle.charmlet_stock.specs.Stock.{blanks_in}
use Rattle.charmlet_locate.specs.Locations.{is_processor_count}
use Rattle.charmlet_engine.specs.Engine.{core_of}
use Rattle.charmlet_engine.specs.Restarted.{IsFound, IsOpenedOn, core_or_refusal, disk_after, is_engine_refusal}
use Rattle.charmlet_engine.specs.Restart.{AnswersBy, bytes_on}
use Rattle.charmlet_engine.specs.Wanted as wants
use Rattle.charmlet_script.specs.Script.{processors_of}
use Rattle.charmlet_lab.specs.Restarts.{IsKnown, IsRestart}
use Rattle.charmlet_lab.specs.Rounds.{arrays_of}
use Rattle.charmlet_lab.proofs.Restarts.{all_why, goes_on_newest, if_both, is_restart, told_enough, told_lack}
use Rattle.charmlet_lab.proofs.Rounds.{all_blanks}
use Rattle.charmlet_lab.proofs.Tried.{good_by_files, good_is_lawful, good_is_nothing_or_lawful}
use Rattle.charmlet_lab.proofs.trial.lab_outcome.Goals as goal

pub lab_bad-requires-clause-newest : goal.lab_bad-requires-clause-newest
lab_bad-requires-clause-newest g c κs within = goes_on_newest (blanks_in c.in-Ok.stock) c.restart-answer.result (IfOk-weaker c.restart-answer.result _ _ (λ engine ok. ok.read) c.restart-answer.ensures.ok)

pub returns : goal.returns
returns g c =
    let script = c.args.script.now in
    let disk = c.args.disk in
    let given = count_of g.C.Chare.state c.args.blanks.items in
    let wanted = wants.blanks_in c.args.wanted.now in
    let stock = c.in-Ok.stock in
    let has = λ (kind : Kind). all_blanks stock c.in-Ok.ensures.unused kind ∙ c.in-Ok.ensures.supplied kind in
    let answer = c.restart-answer.result in
    let answers = c.restart-answer.ensures in
    let opens = IfOk-weaker answer _ (λ engine. IsOpenedOn c.processors.result (core_of engine)) (λ engine ok. ok.opens) answers.ok in
    let found = λ (honest : g.D.Disk.honest disk). IfOk-weaker answer _ (λ engine. IsFound (bytes_on (g.D.Disk.file disk)) (core_of engine)) (λ engine files. files.found) (answers.files honest) in
    let only_bad = IfErr-weaker answer _ (λ refused. refused.refusal ≡ refusals.BadPes → is_processor_count c.processors.result ≡ false) (λ refused why. why.bad) answers.err in
    let known = IfErr-weaker answer _ (λ refused. is_engine_refusal refused.refusal ≡ true) (λ refused why. why.known) answers.err in
    let restart = λ (is_known : IsKnown (core_or_refusal answer)). subst (λ processors. IsRestart g.D.Disk processors given disk (core_or_refusal answer)) c.processors.ensures
    (is_restart g.D.Disk c.processors.result given disk stock answer opens found answers.bad only_bad
    (λ honest good. subst (λ blanks. AnswersBy (engine_refusal blanks (bytes_on (g.D.Disk.file disk))) (core_or_refusal answer)) (λ i kind. has kind i) (answers.answer honest good)) known is_known) in
    record {
      ok = if_both c.lab_bad.result _ _ _ (λ bad judged is_known. record { back = core_or_refusal answer; restart = restart is_known; judged = judged }) c.lab_bad.ensures.ok c.lab_bad.ensures.known;
      enough = IfOk-weaker c.lab_bad.result _ _ (λ bad judged. told_enough g.D.Disk script disk given wanted (blanks_in stock) has (sym c.lacking.ensures ∙ c.in_default-lacking.is)) c.lab_bad.ensures.ok;
      sound = λ honest.
          IfOk-weaker c.lab_bad.result _ _ (λ bad judged no n is.
          good_is_lawful (arrays_of script) c.args.events.now c.args.durable n c.processors.result (bytes_on (g.D.Disk.file disk)) answer is
          opens (found honest) (judged.0 no)) c.lab_bad.ensures.ok;
      unmade = λ honest.
          IfOk-weaker c.lab_bad.result _ _ (λ bad judged no is.
          good_is_nothing_or_lawful (arrays_of script) c.args.events.now c.args.durable c.processors.result _ (bytes_on (g.D.Disk.file disk)) _ _ answer is
          opens (found honest) answers.bad (answers.answer honest) (judged.0 no)) c.lab_bad.ensures.ok;
      files = λ honest good.
          if_both c.lab_bad.result _ _ _ (λ bad judged is_known.
          let came = restart is_known in
          let same = good_by_files (arrays_of script) c.args.events.now c.args.durable (processors_of script) (bytes_on (g.D.Disk.file disk)) _ (core_or_refusal answer) came.opens (came.found honest) (came.cause honest good) in
          ((λ no. same.0 (judged.0 no)), (λ files. judged.1 (same.1 files)))) c.lab_bad.ensures.ok c.lab_bad.ensures.known;
      err = all_why g.D.Disk script disk given wanted (disk_after answer) c.lab_bad.result (core_or_refusal answer) answers.disk.counted restart c.lab_bad.ensures.err;
    }

pub returns-in-Some-clause-err : goal.returns-in-Some-clause-err
returns-in-Some-clause-err g c =
    let stock = c.in-Ok.stock in
    let has = λ (kind : Kind). all_blanks stock c.in-Ok.ensures.unused kind ∙ c.in-Ok.ensures.supplied kind in
    told_lack g.D.Disk c.args.script.now c.args.disk (count_of g.C.Chare.state c.args.blanks.items) (wants.blanks_in c.args.wanted.now) (blanks_in stock) has c.in-Some.lack (sym c.lacking.ensures ∙ c.in-Some.is)
