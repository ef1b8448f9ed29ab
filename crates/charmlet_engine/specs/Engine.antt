-- What is seen of an engine.
use Rattle.std.specs.Prelude.{◌≡◌, ℕ, ◌+◌, [], length, take, Result, Ok, Err}
use Rattle.charmlet_model.specs.declared.refusal.Refusal.{Refusal}
use Rattle.charmlet_model.specs.declared.half.Half.{Half}
use Rattle.charmlet_model.specs.declared.kind.Kind.{Kind}
use Rattle.charmlet_model.specs.declared.told.Told.{Told}
use Rattle.charmlet_model.specs.declared.step.Answer.{Answer}
use Rattle.charmlet_model.specs.declared.step.Answer.TheVariants as answers
use Rattle.charmlet_model.specs.World.{World}
use Rattle.charmlet_model.specs.Core.{Core}
use Rattle.charmlet_model.specs.Run.{StoreView}
use Rattle.charmlet_disk.specs.declared.disk.Disk.{Ghosts}
use Rattle.charmlet_halves.specs.declared.opened.Refused.{Refused}
use Rattle.charmlet_history.specs.Kept.{core_in}
use Rattle.charmlet_store.specs.Store.{StoreShown, store_in, supplied_in, world_in}
use Rattle.charmlet_image.specs.Images.{spell_half}
use Rattle.charmlet_recovery.specs.Stores.{saved_of}

-- the answer to a request or a status
abbrev pub client_answer : Result Told Refusal → Answer
client_answer (Ok told) = answers.Told told
client_answer (Err refusal) = answers.Refused refusal

-- what its store shows, the disk that it owns, the half in which it stands, and where the log of
-- that half ends
pub record EngineShown (D : Type 0) : Type 0 where
  pub store : StoreShown
  pub disk : D
  pub half : Half
  pub log_end : ℕ

module _ {D : Type 0} where
  -- the store as a core and the blanks of its stock
  abbrev pub view_of : EngineShown D → StoreView
  view_of engine = store_in engine.store

  -- the core alone
  abbrev pub core_of : EngineShown D → Core
  core_of engine = core_in engine.store.history

  -- the world after the whole history
  abbrev pub world_of : EngineShown D → World
  world_of engine = world_in engine.store

  -- how many objects of each kind were supplied
  abbrev pub supplied_of : EngineShown D → Kind → ℕ
  supplied_of engine = supplied_in engine.store

  -- The half in which it stands says an image of the present world, with a count of all events, and
  -- a log that has no batch yet.
  abbrev pub HasImage : Ghosts D → EngineShown D → Type 0
  HasImage G engine =
      take engine.log_end (G.file engine.disk engine.half).now ≡ spell_half
      (saved_of (world_of engine) ((core_of engine).before + length (core_of engine).history)
      (core_of engine).generation [])

  -- the disk after a creation, which the engine owns or which was handed back
  abbrev pub disk_after : Result (EngineShown D) (Refused D) → D
  disk_after (Ok engine) = engine.disk
  disk_after (Err refused) = refused.disk

  -- that the engine was created, or why not
  abbrev pub engine_or_refusal : Result (EngineShown D) (Refused D) →
      Result (EngineShown D) Refusal
  engine_or_refusal (Ok engine) = Ok engine
  engine_or_refusal (Err refused) = Err refused.refusal
