-- A step that an engine takes.
use Rattle.std.specs.Prelude.{◌≡◌, true, [], ◌∷◌, take}
use Rattle.charmlet_model.specs.declared.step.Step.{Step}
use Rattle.charmlet_model.specs.declared.step.Answer.{Answer}
use Rattle.charmlet_model.specs.Run.{Does}
use Rattle.charmlet_model.specs.RunLaws.{IsToldTrue}
use Rattle.charmlet_disk.specs.declared.disk.Disk.{Ghosts}
use Rattle.charmlet_disk.specs.File.{MayLeave, CrashBytes}
use Rattle.charmlet_engine.specs.Advances.{Advances}
use Rattle.charmlet_engine.specs.Engine.{EngineShown, core_of, supplied_of, view_of}
use Rattle.charmlet_engine.specs.Lives.{Past, Remembers, with_run}
use Rattle.charmlet_engine.specs.Outcomes.{is_lawful_now, is_no_fault}

-- An engine takes a step that writes nothing, which is answered so: the store does it; what is told
-- is true of what is durable, and stays so over all lives to come; each crash from then on is
-- lawful; disk and supplies are as they were; and the device isn't said to have failed.
pub record Takes {D : Type 0} (G : Ghosts D) (old new : EngineShown D) (step : Step)
    (answer : Answer) : Type 0 where
  pub does : Does (view_of old) step answer (view_of new)
  pub told : IsToldTrue (core_of new).opening
      (take (core_of new).durable (core_of new).history) step answer
  pub remembers : (past : Past) → Remembers past (core_of old) →
      Remembers (with_run past (step ∷ []) (answer ∷ [])) (core_of new)
  pub advances : Advances G old new
  pub now : G.honest old.disk → (outcome : CrashBytes) → MayLeave (G.file new.disk) outcome →
      is_lawful_now (core_of new) outcome
  pub disk : new.disk ≡ old.disk
  pub supplied : supplied_of new ≡ supplied_of old
  pub no_fault : is_no_fault answer ≡ true
