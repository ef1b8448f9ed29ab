-- What objects made of deliveries.
use Rattle.std.specs.Prelude.{◌≡◌, ◌≤◌, ℕ, Bool, Option, Some, IfSome, length, is_none}
use Rattle.charmlet_model.specs.declared.reaction.Reaction.{Reaction}
use Rattle.charmlet_chare.specs.declared.output.Output.{Output}
use Rattle.charmlet_chare.specs.Output.{output_of}
use Rattle.charmlet_shelf.specs.Due.{Due, reaction_in}

-- a delivery, and what its receiver sent and replied by it, until that is taken
pub record Performed : Type 0 where
  pub due : Due
  pub output : Option Output

-- what is kept of this reaction: `count` sends, at most 16, whether the object is destroyed, and
-- the output until it is taken
pub record IsOf (count : ℕ) (gone : Bool) (left : Option Output) (r : Reaction) : Type 0 where
  pub sends : count ≡ length r.sends
  pub destroyed : gone ≡ is_none r.state
  pub output : IfSome left (λ o. o ≡ output_of r)
  pub few : count ≤ 16

-- it is what the kind table says of the message and of the receiver before it
abbrev pub IsPerformed : Due → ℕ → Bool → Option Output → Type 0
IsPerformed due sends destroyed output = (r : Reaction) × (reaction_in due ≡ Some r)
    × IsOf sends destroyed output r
