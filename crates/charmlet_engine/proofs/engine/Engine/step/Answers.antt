use Rattle.std.proofs.Common.{◌∷◌, [], ap, sym, ◌∙◌, rules, take}
use Rattle.charmlet_model.specs.RunLaws.{IsToldTrue}
use Rattle.charmlet_disk.specs.Disk.{faults_after}
use Rattle.charmlet_halves.specs.Halves.{disk_of}
use Rattle.charmlet_engine.specs.Engine.{core_of}
use Rattle.charmlet_engine.proofs.Asked.{takes_quietly, tied_quietly}
use Rattle.charmlet_engine.proofs.Lives.{remembers_run}
use Rattle.charmlet_engine.proofs.engine.Engine.step.Goals as goal

pub invariant_of-self : goal.invariant_of-self
invariant_of-self g c =
    let laws = g.met.D.Disk g.world.𝓛 g.world.𝓜 g.world.𝓡 ((λ s x. x), (λ x. x), (λ x. x), (λ x. x)) in
    let done = c.answer_in_memory.ensures in
    let old = c.self.inside in
    tied_quietly g.D.Disk c.args.self.now c.facts.ensures.sound old.store old.halves c.self.invariant c.self.view_is (laws.only_now (disk_of old.halves)) c.answer_in_memory.new.store done.keeping done.quiet

pub returns-in-Some : goal.returns-in-Some
returns-in-Some g c =
    let laws = g.met.D.Disk g.world.𝓛 g.world.𝓜 g.world.𝓡 ((λ s x. x), (λ x. x), (λ x. x), (λ x. x)) in
    let old = c.self.inside in
    let store = c.answer_in_memory.new.store in
    let both = c.answer_in_memory.ensures in
    let done = c.in-Some.ensures in
    let takes = takes_quietly g.D.Disk c.args.self.now c.facts.ensures.sound old.store old.halves c.self.invariant c.self.view_is (laws.only_now (disk_of old.halves)) store both.keeping both.quiet
    c.facts-in_default.ensures.sound both.supplied c.args.step.now c.in-Some.answer done.does done.no_fault in
    record {
      does = takes.does;
      told = takes.told;
      remembers = takes.remembers;
      advances = takes.advances;
      now = takes.now;
      image = λ honest is. (let no = sym done.no_image ∙ is in absurd cc);
      stored = λ honest going is. absurd (done.quietly.1 is);
      flushed = λ is. absurd (done.quietly.0 is);
      still = λ _. takes.disk;
      supplied = takes.supplied;
      counted = ap g.D.Disk.faults takes.disk ∙ ap (λ b. faults_after b (g.D.Disk.faults c.args.self.now.disk)) (sym done.no_fault);
    }

pub returns-in-Flush-clause-now : goal.returns-in-Flush-clause-now
returns-in-Flush-clause-now g c = λ honest. c.facts-in-Flush.ensures.lawful (c.flush-answer.ensures.advances.honest.0 honest)

pub returns-in-Checkpoint-clause-now : goal.returns-in-Checkpoint-clause-now
returns-in-Checkpoint-clause-now g c = λ honest. c.facts-in-Checkpoint.ensures.lawful (c.checkpoint-answer.ensures.advances.honest.0 honest)

pub returns-in-Flush-clause-remembers : goal.returns-in-Flush-clause-remembers
returns-in-Flush-clause-remembers g c = λ past r.
    let next = core_of c.flush-answer.new.self in
    let told : IsToldTrue next.opening (take next.durable next.history) c.args.step.now c.flush-answer.result = search rules in
    remembers_run past (core_of c.args.self.now) next (c.args.step.now ∷ []) (c.flush-answer.result ∷ []) c.flush-answer.ensures.advances.onward c.facts-in-Flush.ensures.sound (told, tt) r

pub returns-in-Checkpoint-clause-remembers : goal.returns-in-Checkpoint-clause-remembers
returns-in-Checkpoint-clause-remembers g c = λ past r.
    let next = core_of c.checkpoint-answer.new.self in
    let told : IsToldTrue next.opening (take next.durable next.history) c.args.step.now c.checkpoint-answer.result = search rules in
    remembers_run past (core_of c.args.self.now) next (c.args.step.now ∷ []) (c.checkpoint-answer.result ∷ []) c.checkpoint-answer.ensures.advances.onward c.facts-in-Checkpoint.ensures.sound (told, tt) r
