-- What is seen of an element.
use Rattle.std.specs.Prelude.{◌≡◌, ℕ, Option, Some, None}
use Rattle.charmlet_model.specs.declared.state.State.{State}
use Rattle.charmlet_model.specs.declared.state.Record.{Record}
use Rattle.charmlet_model.specs.Packed.{pupped}
use Rattle.charmlet_store.specs.declared.look.Look.{Look}
use Rattle.charmlet_store.specs.declared.look.Standing.{Standing}

-- it stands on the processor that is its place, and this is its packed state
abbrev pub IsStanding : Option ℕ → State → Standing → Type 0
IsStanding place state standing = (place ≡ Some standing.processor)
    × (standing.packed.items ≡ pupped state)

-- it stands somewhere if it is there, and else nowhere
abbrev pub StandsWith : Option ℕ → Option State → Option Standing → Type 0
StandsWith place None standing = standing ≡ None
StandsWith place (Some state) None = ⊥
StandsWith place (Some state) (Some standing) = IsStanding place state standing

-- what is seen is what the element's place and record say
pub record IsLook (place : Option ℕ) (r : Record) (look : Look) : Type 0 where
  pub standing : StandsWith place r.state look.standing
  pub sent : look.sent ≡ r.sent
  pub received : look.received ≡ r.received
