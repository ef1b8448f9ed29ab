use Rattle.std.proofs.Common.{true, ◌≡◌, ◌≤◌, length, take}
use Rattle.std.specs.Vec.{vec_capacity, vec_len}
use Rattle.charmlet_model.specs.Run.{Runs}
use Rattle.charmlet_model.specs.RunLaws.{AllTold}
use Rattle.charmlet_model.specs.Sound.{IsSound}
use Rattle.charmlet_disk.specs.File.{MayLeave, CrashBytes}
use Rattle.charmlet_engine.specs.Advances.{Advances}
use Rattle.charmlet_engine.specs.Engine.{HasImage, core_of, supplied_of, view_of}
use Rattle.charmlet_engine.specs.Outcomes.{AreFlushedAnyway, ends_with_image, faults_of_both_calls, is_lawful_now}
use Rattle.charmlet_engine.proofs.engine.Engine.run.Given as goal

-- the steps so far are run, and there is room for the answers to come
abbrev pub invariant-loop-step : goal.invariant-loop-step
invariant-loop-step g l =
    record {
      sound : IsSound (core_of l.self);
      now : g.D.Disk.honest l.fn.self.disk → (outcome : CrashBytes) → MayLeave (g.D.Disk.file l.self.disk) outcome → is_lawful_now (core_of l.self) outcome;
      runs : Runs (view_of l.fn.self) (take l.step-index l.steps) l.answers.items (view_of l.self);
      told : AllTold (core_of l.self).opening (take (core_of l.self).durable (core_of l.self).history) (take l.step-index l.steps) l.answers.items;
      flushed : AreFlushedAnyway (take l.step-index l.steps) l.answers.items;
      advances : Advances g.D.Disk l.fn.self l.self;
      image : g.D.Disk.honest l.fn.self.disk → ends_with_image l.answers.items ≡ true → HasImage g.D.Disk l.self;
      supplied : supplied_of l.self ≡ supplied_of l.fn.self;
      counted : g.D.Disk.faults l.self.disk ≡ faults_of_both_calls l.answers.items (g.D.Disk.faults l.fn.self.disk);
      count : vec_len l.answers ≡ l.step-index;
      room : length l.steps ≤ vec_capacity l.answers;
    }
