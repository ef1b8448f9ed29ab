use Rattle.std.proofs.Common.{rules, ◌≡◌, ◌+◌, ◌<◌, [], ◌∷◌, ◌++◌, List, length, refl, sym, ap, subst, ◌∙◌, arith, true, false}
use Rattle.std.specs.Prelude.{get_or, take}
use Rattle.std.proofs.lemmas.List.{take_all, take_more}
use Rattle.charmlet_model.specs.declared.step.Answer.{Answer}
use Rattle.charmlet_model.specs.declared.step.Step.{Step}
use Rattle.charmlet_model.specs.Run.{Runs}
use Rattle.charmlet_model.specs.RunLaws.{AllTold}
use Rattle.charmlet_model.proofs.RunLemmas.{runs_join}
use Rattle.charmlet_model.proofs.RunTruths.{all_told_join, all_told_later, does_between, sure}
use Rattle.charmlet_disk.specs.Disk.{faults_after}
use Rattle.charmlet_halves.specs.Halves.{disk_of}
use Rattle.charmlet_engine.specs.Engine.{core_of, view_of}
use Rattle.charmlet_engine.specs.Outcomes.{AreFlushedAnyway, ends_with_image, faults_of_both_calls, is_no_fault}
use Rattle.charmlet_engine.proofs.Advancing.{advances_after, advances_self}
use Rattle.charmlet_engine.proofs.Lives.{remembers_run}
use Rattle.charmlet_engine.proofs.Onward.{ends_more, faults_more, flushed_join}
use Rattle.charmlet_engine.proofs.engine.Engine.run.Goals as goal

pub returns-in_err-answers-clause-advances : goal.returns-in_err-answers-clause-advances
returns-in_err-answers-clause-advances g c =
    let laws = g.met.D.Disk g.world.𝓛 g.world.𝓜 g.world.𝓡 ((λ s x. x), (λ x. x), (λ x. x), (λ x. x)) in
    advances_self g.D.Disk c.self.inside.store c.self.inside.halves c.self.invariant (λ honest o left. laws.only_now (disk_of c.self.inside.halves) o honest left) c.args.self.now c.self.view_is

pub returns-in_err-answers-clause-now : goal.returns-in_err-answers-clause-now
returns-in_err-answers-clause-now g c = c.facts.ensures.lawful

pub loop-step-init : goal.loop-step-init
loop-step-init g c =
    let laws = g.met.D.Disk g.world.𝓛 g.world.𝓜 g.world.𝓡 ((λ s x. x), (λ x. x), (λ x. x), (λ x. x)) in
    let empty : c.in_ok-answers.answers.items ≡ [] = search rules in
    record {
      sound = c.facts.ensures.sound;
      now = c.facts.ensures.lawful;
      runs = search rules;
      told = search rules;
      flushed = search rules;
      advances = advances_self g.D.Disk c.self.inside.store c.self.inside.halves c.self.invariant (λ honest o left. laws.only_now (disk_of c.self.inside.halves) o honest left) c.args.self.now c.self.view_is;
      image = λ honest is. (let none : false ≡ true = ap ends_with_image (sym empty) ∙ is in absurd cc);
      supplied = refl;
      counted = search rules;
      count = search rules;
      room = search rules;
    }

pub loop-step-preserved : goal.loop-step-preserved
loop-step-preserved g c =
    let old = c.args.self.now in
    let mid = c.loop-step.self in
    let new = c.step-answer.new.self in
    let so_far = c.loop-step.invariant in
    let first = view_of old in
    let before = view_of mid in
    let next = view_of new in
    let step = c.step-item.result in
    let answer = c.step-answer.result in
    let steps = c.args.steps.now in
    let answers = c.loop-step.answers.items in
    let done = c.step-answer.ensures in
    let more : take (c.loop-step.step-index + 1) steps ≡ take c.loop-step.step-index steps ++ step ∷ [] =
    let within : c.loop-step.step-index < length steps = search rules in
    let is : get_or steps c.loop-step.step-index step ≡ step = search rules in
    take_more steps c.loop-step.step-index step within ∙ ap (λ s. take c.loop-step.step-index steps ++ s ∷ []) is in
    let pushed : c.push_reserved.new.self.items ≡ answers ++ answer ∷ [] = c.push_reserved.ensures.items in
    let reached = does_between before next step answer so_far.sound c.facts-in-loop-step.ensures.sound done.does in
    let runs = runs_join first before next (take c.loop-step.step-index steps) (step ∷ []) answers (answer ∷ []) so_far.runs (next, done.does, refl) in
    let flushed = flushed_join (take c.loop-step.step-index steps) (step ∷ []) answers (answer ∷ []) so_far.flushed (done.flushed, tt) in
    let told = all_told_join next.core.opening (sure next.core) (take c.loop-step.step-index steps) (step ∷ []) answers (answer ∷ [])
    (all_told_later before.core next.core (take c.loop-step.step-index steps) answers reached so_far.told) (done.told, tt) in
    record {
      sound = c.facts-in-loop-step.ensures.sound;
      now = λ honest. c.facts-in-loop-step.ensures.lawful (done.advances.honest.0 (so_far.advances.honest.0 honest));
      runs = subst (λ (l : List Step). Runs first l c.push_reserved.new.self.items next) (sym more) (subst (λ (l : List Answer). Runs first (take c.loop-step.step-index steps ++ step ∷ []) l next) (sym pushed) runs);
      told = subst (λ (l : List Step). AllTold next.core.opening (sure next.core) l c.push_reserved.new.self.items) (sym more) (subst (λ (l : List Answer). AllTold next.core.opening (sure next.core) (take c.loop-step.step-index steps ++ step ∷ []) l) (sym pushed) told);
      flushed = subst (λ (l : List Step). AreFlushedAnyway l c.push_reserved.new.self.items) (sym more) (subst (AreFlushedAnyway (take c.loop-step.step-index steps ++ step ∷ [])) (sym pushed) flushed);
      advances = advances_after g.D.Disk old mid new so_far.advances done.advances;
      image = λ honest is. done.image (so_far.advances.honest.0 honest) (sym (ends_more answers answer) ∙ ap ends_with_image (sym pushed) ∙ is);
      supplied = done.supplied ∙ so_far.supplied;
      counted = done.counted ∙ ap (faults_after (is_no_fault answer)) so_far.counted ∙ sym (faults_more answers answer (g.D.Disk.faults old.disk)) ∙ ap (λ (l : List Answer). faults_of_both_calls l (g.D.Disk.faults old.disk)) (sym pushed);
      count = let count = so_far.count in let pushed = c.push_reserved.ensures.len in omega arith;
      room = let room = so_far.room in let grown = c.push_reserved.ensures.capacity in omega arith;
    }

pub returns-clause-remembers : goal.returns-clause-remembers
returns-clause-remembers g c = λ past r.
    let old = c.args.self.now in
    let new = c.loop-step.self in
    let so_far = c.loop-step.invariant in
    let told : AllTold (core_of new).opening (take (core_of new).durable (core_of new).history) c.args.steps.now c.loop-step.answers.items =
    subst (λ (l : List Step). AllTold (core_of new).opening (take (core_of new).durable (core_of new).history) l c.loop-step.answers.items) (take_all c.loop-step.step-index c.args.steps.now c.loop-step-test.false) so_far.told in
    remembers_run past (core_of old) (core_of new) c.args.steps.now c.loop-step.answers.items so_far.advances.onward so_far.sound told r

pub returns-clause-flushed : goal.returns-clause-flushed
returns-clause-flushed g c =
    subst (λ (l : List Step). AreFlushedAnyway l c.loop-step.answers.items) (take_all c.loop-step.step-index c.args.steps.now c.loop-step-test.false) c.loop-step.invariant.flushed
