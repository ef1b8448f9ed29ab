use Rattle.std.proofs.Common.{◌≡◌, false, refl, subst}
use Rattle.charmlet_engine.specs.Wanted.{blanks_in}
use Rattle.charmlet_script.specs.Script.{processors_of}
use Rattle.charmlet_lab.specs.Judged.{IsGood}
use Rattle.charmlet_lab.specs.Rounds.{arrays_of}
use Rattle.charmlet_lab.proofs.Restarts.{same_restart}
use Rattle.charmlet_lab.proofs.Causes.{empty_is_settled, handed_on, not_read}
use Rattle.charmlet_lab.proofs.trials.try_crash.Goals as goal

pub run-requires : goal.run-requires
run-requires g c = record { settled = λ honest. empty_is_settled (g.D.Disk.file c.failing.result) (c.failing.ensures.empty honest) }

pub returns-in_err-wanted-clause-err : goal.returns-in_err-wanted-clause-err
returns-in_err-wanted-clause-err g c =
    let script = c.args.script.now in
    let refusal = c.in_err-wanted.field-0.0 in
    handed_on g.D.Disk script c.from_residual-in_err-wanted.result refusal c.from_residual-in_err-wanted.ensures.1
    (not_read g.D.Disk script c.crash-disk.result c.wanted_on.new.disk refusal c.in_err-wanted.ensures.err)

pub returns-clause-ok : goal.returns-clause-ok
returns-clause-ok g c =
    let script = c.args.script.now in
    let round = c.in_ok-round.round in
    let crashed = c.crash-disk.result in
    let trial = c.in_ok-is_bad.ensures.ok in
    let judged = trial.2 in
    let back = judged.back in (
      record { place = (c.args.calls, c.args.choice); round = round; disk = crashed; wanted = blanks_in c.in_ok-wanted.wanted; given = trial.0; back = back; bad = c.in_ok-is_bad.is_bad },
      record {
        run = record { first = c.failing.result; fails = c.failing.ensures.calls; empty = c.failing.ensures.empty; leaves = c.in_ok-round.ensures.ok; lines = c.in_ok-round.ensures.ran; processors = c.in_ok-round.ensures.processors };
        stopped = c.if-not-round.false;
        crash = record { left = c.crash-disk.ensures.left; lawful = c.crash-disk.ensures.lawful; honest = c.crash-disk.ensures.honest };
        wanted = c.in_ok-wanted.ensures.ok;
        enough = trial.1;
        restart = same_restart g.D.Disk (processors_of script) trial.0 crashed c.wanted_on.new.disk back c.wanted_on.ensures.honest.0 c.wanted_on.ensures.same judged.restart;
        judged = subst (λ (events : _). (c.in_ok-is_bad.is_bad ≡ false → IsGood (arrays_of script) events round.durable back) × (IsGood (arrays_of script) events round.durable back → c.in_ok-is_bad.is_bad ≡ false)) c.deref.ensures.value judged.judged;
      },
      refl,
      refl,
    )
