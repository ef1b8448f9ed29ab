use Rattle.std.proofs.Common.{◌+◌, ◌++◌, take, refl, sym, ap, subst, ◌∙◌, arith, append_assoc}
use Rattle.charmlet_disk.specs.declared.crash.CrashChoice.TheVariants.{Old}
use Rattle.charmlet_lab.specs.declared.line.LabLine.{LabLine}
use Rattle.charmlet_lab.specs.Trials.{AreTried, places, places_at}
use Rattle.charmlet_lab.proofs.Counting.{all_taken, one_more, places_taken, same_counts}
use Rattle.charmlet_lab.proofs.trials.try_stop.Goals as goal

pub loop-choice-preserved : goal.loop-choice-preserved
loop-choice-preserved g c =
    let script = c.args.script.now in
    let trial = rw c.in-Some.is at c.in_ok-is_bad.ensures.ok in
    let calls = c.args.calls in
    let k = c.loop-choice.choice-index in
    let first = places calls ++ take k (places_at calls) in
    let next = one_more g.D.Disk g.D.LabDisk.calls_left script first c.loop-choice.line c.count.new.self trial.0 _ c.in-Some.is_bad c.loop-choice.invariant.tried trial.1 trial.2 trial.3 c.count.ensures.outcomes c.count.ensures.bad in
    record {
      tried = subst (λ ps. AreTried g.D.Disk g.D.LabDisk.calls_left script ps c.count.new.self) (append_assoc (places calls) (take k (places_at calls)) _ ∙ ap (λ ps. places calls ++ ps) (sym (places_taken calls k Old c.loop-choice-test.true))) next;
      stops = c.count.ensures.stops ∙ c.loop-choice.invariant.stops;
      outcomes = omega (arith, c.count.ensures.outcomes, c.loop-choice.invariant.outcomes);
    }

pub returns-clause-stopped : goal.returns-clause-stopped
returns-clause-stopped g c _ =
    let script = c.args.script.now in
    let line = c.loop-choice.line in
    let next : LabLine = record { stops = line.stops + 1; outcomes = line.outcomes; bad = line.bad } in
    let taken = places c.args.calls ++ take c.loop-choice.choice-index (places_at c.args.calls) in (
      subst (λ ps. AreTried g.D.Disk g.D.LabDisk.calls_left script ps next) (all_taken c.args.calls c.loop-choice.choice-index c.loop-choice-test.false)
          (same_counts g.D.Disk g.D.LabDisk.calls_left script taken line next c.loop-choice.invariant.tried refl refl),
      ap (λ n. n + 1) c.loop-choice.invariant.stops,
      omega (arith, c.loop-choice.invariant.outcomes, c.requires.room, c.loop-choice.auto.choice-index-end),
    )
