-- What the clients of a runtime were told, as a run of its store.
use Rattle.std.specs.Prelude.{ℕ, List, map}
use Rattle.std.specs.List.{flat_map}
use Rattle.charmlet_model.specs.declared.step.Step.{Step}
use Rattle.charmlet_model.specs.declared.step.Step.TheVariants.{Status}
use Rattle.charmlet_model.specs.declared.step.Answer.{Answer}
use Rattle.charmlet_model.specs.declared.step.Answer.TheVariants.{Told as TheTold}
use Rattle.charmlet_model.specs.declared.told.Told.{Told}
use Rattle.charmlet_model.specs.Core.{Core}
use Rattle.charmlet_model.specs.Sound.{IsSound}
use Rattle.charmlet_leases.specs.Passes.Passes.{AreCurrent, HeldPass, LentPasses, passes_out}
use Rattle.charmlet_engine.specs.Lives.{HasRun}
use Rattle.charmlet_engine.specs.Outcomes.{Onward}

-- a question about each request of which the pass's client was told something, as often as it was
abbrev pub asked_by : HeldPass → List Step
asked_by held = map (λ (heard : ℕ × Told). Status held.pass.client heard.0) held.heard

-- and what it was told
abbrev pub told_to : HeldPass → List Answer
told_to held = map (λ (heard : ℕ × Told). TheTold heard.1) held.heard

-- Of a store that opened and went on, passes that are out and current have told their clients what
-- a run of that store tells: it is true of what is durable.
abbrev pub PassesAreRuns : Type 0
PassesAreRuns = (opened core : Core) (passes : LentPasses) → Onward opened core → IsSound core →
    AreCurrent passes core →
    HasRun (flat_map asked_by (passes_out passes.held)) (flat_map told_to (passes_out passes.held))
    opened core
