-- Which outcomes of a crash are lawful.
use Rattle.std.specs.Prelude.{◌≡◌, ℕ, ◌+◌, ◌≤◌, List, length, take}
use Rattle.charmlet_model.specs.declared.half.Half.{Half}
use Rattle.charmlet_model.specs.declared.event.Event.{Event}
use Rattle.charmlet_model.specs.World.{World, world}
use Rattle.charmlet_recovery.specs.Recovered.{Found, recovered}
use Rattle.charmlet_recovery.specs.Stores.{Stores}

-- The files recover to the world after some events of the history, including the durable ones.
-- `before` events came before the history, which began in the world w.
pub record IsLawful (w : World) (before : ℕ) (history : List Event) (durable : ℕ)
    (outcome : Half → List ℕ) : Type 0 where
  pub kept : ℕ
  pub durable_kept : durable ≤ kept
  pub none_invented : kept ≤ length history
  pub generation : ℕ
  pub is : recovered outcome ≡ Found (world w (take kept history)) (before + kept) generation

-- the files store such a world
pub record Keeps (w : World) (before : ℕ) (history : List Event) (durable : ℕ)
    (outcome : Half → List ℕ) : Type 0 where
  pub kept : ℕ
  pub durable_kept : durable ≤ kept
  pub none_invented : kept ≤ length history
  pub generation : ℕ
  pub stores : Stores outcome (world w (take kept history)) (before + kept) generation
