use Rattle.std.proofs.Common.{◌≡◌, Err, true, inl, inr, refl, subst}
use Rattle.charmlet_model.specs.Core.{Blanks, Core}
use Rattle.charmlet_recovery.specs.Restarts.{engine_refusal}
use Rattle.charmlet_engine.specs.Restart.{AnswersBy, bytes_on}
use Rattle.charmlet_locate.specs.Locations.{is_processor_count}
use Rattle.charmlet_stock.specs.Stock.{supplied_to}
use Rattle.charmlet_engine.specs.Engine.{view_of}
use Rattle.charmlet_engine.specs.Restarted.{IsTakenFrom}
use Rattle.charmlet_script_output.specs.Ledgers.{ledger_in}
use Rattle.charmlet_script_output.proofs.Backs.{all_given, counted_processors, is_back, was_not_restarted}
use Rattle.charmlet_cli.proofs.Restarts.{stands_back}
use Rattle.charmlet_cli.proofs.restarted_run.restart_with.Goals as goal

pub returns-in-Ok-ran-clause-ran : goal.returns-in-Ok-ran-clause-ran
returns-in-Ok-ran-clause-ran g c =
    let first = c.in-Ok.engine in
    let end = c.run_restarted-ran.new.engine in
    let made = c.in-Ok.ensures in
    let same = all_given c.args.prepared.given c.requires.unused in
    let taken = subst (λ (given : Blanks). g.D.Disk.honest c.args.disk → IsTakenFrom given (bytes_on (g.D.Disk.file c.args.disk)) (view_of first)) same (λ honest. (made.files honest).taken_from) in (
      counted_processors (is_processor_count c.args.processors) (λ is. made.bad is),
      ledger_in first,
      is_back g.D.Disk c.args.processors (supplied_to c.args.prepared.given) c.args.disk first made.ok.opens (λ honest. (made.files honest).found) taken made.ok.supplied_are made.remembers made.disk.counted made.disk.honest
          (λ honest. (made.leaves honest).settled refl) (λ honest. (made.files honest).now) (λ honest. (made.leaves honest).still) (λ honest. (made.leaves honest).any_moment),
      ledger_in end,
      c.in-Ok-ran.ensures.prints,
      stands_back g.D.Disk c.args.disk c.into_disk.result first end c.facts.ensures.lawful c.run_restarted-ran.ensures.advances made.disk.honest.0 (λ honest. (made.files honest).found) (λ honest. (made.leaves honest).any_moment) c.into_disk.ensures,
    )

pub returns-in-Ok-ran-clause-constructions : goal.returns-in-Ok-ran-clause-constructions
returns-in-Ok-ran-clause-constructions g c =
    let first = c.in-Ok.engine in
    let made = c.in-Ok.ensures in
    let same = all_given c.args.prepared.given c.requires.unused in
    let taken = subst (λ (given : Blanks). g.D.Disk.honest c.args.disk → IsTakenFrom given (bytes_on (g.D.Disk.file c.args.disk)) (view_of first)) same (λ honest. (made.files honest).taken_from) in (
      ledger_in first,
      is_back g.D.Disk c.args.processors (supplied_to c.args.prepared.given) c.args.disk first made.ok.opens (λ honest. (made.files honest).found) taken made.ok.supplied_are made.remembers made.disk.counted made.disk.honest
          (λ honest. (made.leaves honest).settled refl) (λ honest. (made.files honest).now) (λ honest. (made.leaves honest).still) (λ honest. (made.leaves honest).any_moment),
      c.constructions.ensures,
    )

pub returns-in-Ok-clause-err : goal.returns-in-Ok-clause-err
returns-in-Ok-clause-err g c =
    let first = c.in-Ok.engine in
    let end = c.run_restarted-ran.new.engine in
    let made = c.in-Ok.ensures in
    let same = all_given c.args.prepared.given c.requires.unused in
    let taken = subst (λ (given : Blanks). g.D.Disk.honest c.args.disk → IsTakenFrom given (bytes_on (g.D.Disk.file c.args.disk)) (view_of first)) same (λ honest. (made.files honest).taken_from) in
    inr (
      counted_processors (is_processor_count c.args.processors) (λ is. made.bad is),
      ledger_in first,
      is_back g.D.Disk c.args.processors (supplied_to c.args.prepared.given) c.args.disk first made.ok.opens (λ honest. (made.files honest).found) taken made.ok.supplied_are made.remembers made.disk.counted made.disk.honest
          (λ honest. (made.leaves honest).settled refl) (λ honest. (made.files honest).now) (λ honest. (made.leaves honest).still) (λ honest. (made.leaves honest).any_moment),
      ledger_in end,
      c.in-Err-ran.ensures.breaks_off,
      stands_back g.D.Disk c.args.disk c.into_disk-in-Err-ran.result first end c.facts.ensures.lawful c.run_restarted-ran.ensures.advances made.disk.honest.0 (λ honest. (made.files honest).found) (λ honest. (made.leaves honest).any_moment)
          c.into_disk-in-Err-ran.ensures,
    )

pub returns-in-Ok-clause-constructions : goal.returns-in-Ok-clause-constructions
returns-in-Ok-clause-constructions g c =
    let first = c.in-Ok.engine in
    let made = c.in-Ok.ensures in
    let same = all_given c.args.prepared.given c.requires.unused in
    let taken = subst (λ (given : Blanks). g.D.Disk.honest c.args.disk → IsTakenFrom given (bytes_on (g.D.Disk.file c.args.disk)) (view_of first)) same (λ honest. (made.files honest).taken_from) in (
      ledger_in first,
      is_back g.D.Disk c.args.processors (supplied_to c.args.prepared.given) c.args.disk first made.ok.opens (λ honest. (made.files honest).found) taken made.ok.supplied_are made.remembers made.disk.counted made.disk.honest
          (λ honest. (made.leaves honest).settled refl) (λ honest. (made.files honest).now) (λ honest. (made.leaves honest).still) (λ honest. (made.leaves honest).any_moment),
      c.constructions.ensures,
    )

pub returns-in-Ok-write_answer-clause-err : goal.returns-in-Ok-write_answer-clause-err
returns-in-Ok-write_answer-clause-err g c =
    let refused = c.in-Err.field-0 in
    let why = c.in-Err.ensures in
    let same = all_given c.args.prepared.given c.requires.unused in
    let answer = subst (λ (given : Blanks). g.D.Disk.honest c.args.disk → is_processor_count c.args.processors ≡ true → AnswersBy {X = Core} (engine_refusal given (bytes_on (g.D.Disk.file c.args.disk))) (Err refused.refusal)) same why.answer in (
      was_not_restarted g.D.Disk c.args.processors (supplied_to c.args.prepared.given) c.args.disk c.args.prepared.given refused why.err.known why.bad why.err.bad answer why.lawful
          (λ honest. (why.leaves honest).still) (λ honest. (why.leaves honest).unwritten) (λ honest. (why.leaves honest).settled) (λ honest. (why.leaves honest).any_moment) why.disk.counted,
      c.in-Ok-write_answer.ensures,
    )

pub returns-clause-err : goal.returns-clause-err
returns-clause-err g c =
    let refused = c.in-Err.field-0 in
    let why = c.in-Err.ensures in
    let same = all_given c.args.prepared.given c.requires.unused in
    let answer = subst (λ (given : Blanks). g.D.Disk.honest c.args.disk → is_processor_count c.args.processors ≡ true → AnswersBy {X = Core} (engine_refusal given (bytes_on (g.D.Disk.file c.args.disk))) (Err refused.refusal)) same why.answer in
    inl (
      refused.refusal,
      was_not_restarted g.D.Disk c.args.processors (supplied_to c.args.prepared.given) c.args.disk c.args.prepared.given refused why.err.known why.bad why.err.bad answer why.lawful
          (λ honest. (why.leaves honest).still) (λ honest. (why.leaves honest).unwritten) (λ honest. (why.leaves honest).settled) (λ honest. (why.leaves honest).any_moment) why.disk.counted,
      c.in-Err-write_answer.ensures,
    )
