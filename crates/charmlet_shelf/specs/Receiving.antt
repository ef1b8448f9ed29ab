-- What objects do with messages.
use Rattle.std.specs.Prelude.{◌≡◌, ℕ, Bool, true, false, Option, Some, None, IfSome, if◌then◌else◌}
use Rattle.charmlet_model.specs.declared.reaction.Reaction.{Reaction}
use Rattle.charmlet_model.specs.declared.state.State.{State}
use Rattle.charmlet_model.specs.declared.TheConstants.{CONSTRUCT}
use Rattle.charmlet_chare.specs.declared.output.Output.{Output}
use Rattle.charmlet_chare.specs.Output.{output_of}

-- an element that isn't there gets a message that constructs it
abbrev pub IsConstructed : Bool → ℕ → Type 0
IsConstructed true entry = Unit {0}
IsConstructed false entry = entry ≡ CONSTRUCT

-- the state of an element that is there
abbrev pub state_if : Bool → State → Option State
state_if there s = if there then Some s else None

-- there is a reaction, and the object made it
abbrev pub Becomes : Option Reaction → Output → State → Type 0
Becomes reaction output state = (r : Reaction) × (reaction ≡ Some r) × (output ≡ output_of r)
    × IfSome r.state (λ s. state ≡ s)
