-- Steps by which no request is accepted.
use Rattle.charmlet_model.specs.Core.{Core, CoreStep, Request, Blanks, Stepped, Steps}
use Rattle.charmlet_model.specs.Sound.{IsSound, IsStep}
use Rattle.charmlet_leases.specs.Passes.Passes.{LentPasses, AreCurrent}

-- the step is no request
abbrev pub IsNoRequest : CoreStep → Type 0
IsNoRequest (Request client number to entry words) = ⊥
IsNoRequest _ = Unit {0}

-- after any step but a request all passes are still current
abbrev pub StepsKeepPasses : Type 0
StepsKeepPasses = (passes : LentPasses) (core : Core) (blanks : Blanks) (step : CoreStep)
    (next : Stepped) → IsSound core → IsNoRequest step → IsStep step →
    Steps core blanks step next → AreCurrent passes core → AreCurrent passes next.core
