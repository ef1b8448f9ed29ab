-- What one entry sends and replies, and what it leaves of an object.
use Rattle.std.specs.Prelude.{ℕ, List, [], ◌∷◌, ◌++◌, false, is_none, unwrap_or}
use Rattle.charmlet_model.specs.declared.names.Elem.{Elem}
use Rattle.charmlet_model.specs.declared.state.State.{State}
use Rattle.charmlet_model.specs.declared.reaction.Reaction.{Reaction}
use Rattle.charmlet_chare.specs.declared.output.Output.{Output}

-- nothing is sent or replied, and the object stays
abbrev pub empty_output : Output
empty_output = record { sends = []; reply = []; is_destroyed = false }

-- one more message is sent
abbrev pub with_send : Output → Elem → ℕ → List ℕ → Output
with_send out to entry words =
    record out { sends = out.sends ++ record { to = to; entry = entry; words = words } ∷ [] }

-- these words are the reply
abbrev pub with_reply : Output → List ℕ → Output
with_reply out words = record out { reply = words }

-- what a reaction sends and replies; with no state the object is destroyed
abbrev pub output_of : Reaction → Output
output_of r = record { sends = r.sends; reply = r.reply; is_destroyed = is_none r.state }

-- the state that a reaction leaves, which is the old one where the object is destroyed
abbrev pub state_after : Reaction → State → State
state_after r old = unwrap_or r.state old
