-- What two halves keep of a store, between two calls and at each moment of one.
use Rattle.std.specs.Prelude.{◌≡◌, ◌⊎◌, ℕ, ◌+◌, ◌<◌, ◌^◌, false, List, [], ◌∷◌, ◌++◌, length}
use Rattle.charmlet_model.specs.declared.event.Event.{Event}
use Rattle.charmlet_model.specs.declared.half.Half.{Half}
use Rattle.charmlet_model.specs.declared.half.Half.TheVariants.{Zero, One}
use Rattle.charmlet_model.specs.Core.{Core, durable_world, present}
use Rattle.charmlet_model.specs.KindVersion.{AreNewest}
use Rattle.charmlet_model.specs.Logging.{logged_all}
use Rattle.charmlet_model.specs.World.{World, world, IsLegal}
use Rattle.charmlet_record.specs.WalBuffer.{Batched, IsWalBuffer}
use Rattle.charmlet_image.specs.Images.{Saved, spell_half}
use Rattle.charmlet_image.specs.Halves.{IsSaved, Takes, taken}
use Rattle.charmlet_recovery.specs.Meanings.{Whole, meaning}
use Rattle.charmlet_recovery.specs.Outcomes.{Keeps}
use Rattle.charmlet_recovery.specs.Recovered.{log_of, meaning_of}
use Rattle.charmlet_recovery.specs.Stores.{Stores}
use Rattle.charmlet_recovery.specs.WritingLaws.{StandsFor}
use Rattle.charmlet_disk.specs.declared.disk.Disk.{Ghosts}
use Rattle.charmlet_disk.specs.File.{CrashBytes, MayLeave}
use Rattle.charmlet_halves.specs.declared.halves.Halves.{Halves}
use Rattle.charmlet_halves.specs.Bytes.{before_gate}
use Rattle.charmlet_halves.specs.Halves.{disk_of, end_of, generation_of, is_halted, spare_of, text_of}

-- The taken half says an image and a log that stand for this world, which came after so many
-- events, at this generation; and the spare half is superseded by it.
pub record Rests {D : Type 0} {G : Ghosts D} (halves : Halves D G) (w : World)
    (count generation : ℕ) : Type 0 where
  pub saved : Saved
  pub text : text_of halves ≡ spell_half saved
  pub stands : StandsFor saved (spare_of halves) w count generation

-- the taken half says the world after the durable events
abbrev pub IsAtRest : {D : Type 0} {G : Ghosts D} → Core → Halves D G → Type 0
IsAtRest core halves = Rests halves (durable_world core)
    (core.before + core.durable) core.generation

-- an outcome stores the world after some of the history, the durable events among them
abbrev pub keeps_durable : Core → CrashBytes → Type 0
keeps_durable core = Keeps core.opening core.before core.history core.durable

-- Each outcome of a crash now keeps the durable events, and unless the store is halted the halves
-- are at rest.
pub record IsKept {D : Type 0} {G : Ghosts D} (core : Core) (halves : Halves D G) : Type 0 where
  pub now : (outcome : CrashBytes) → MayLeave (G.file (disk_of halves)) outcome →
      keeps_durable core outcome
  pub rest : core.halted ≡ false → IsAtRest core halves

-- the halves go on, and their log and their generation are the store's
pub record GoesOn {D : Type 0} {G : Ghosts D} (core : Core) (halves : Halves D G) : Type 0 where
  pub going : is_halted halves ≡ false
  pub log_end : end_of halves ≡ core.log_end
  pub generation : generation_of halves ≡ core.generation

-- they do unless the store is halted
abbrev pub Agrees : {D : Type 0} {G : Ghosts D} → Core → Halves D G → Type 0
Agrees core halves = core.halted ≡ false → GoesOn core halves

-- the halves go on with a log that is longer by so many bytes
pub record Grew {D : Type 0} {G : Ghosts D} (old new : Halves D G) (size : ℕ) : Type 0 where
  pub going : is_halted new ≡ false
  pub log_end : end_of new ≡ end_of old + size
  pub generation : generation_of new ≡ generation_of old

-- the taken half says an image whose kinds are of their newest versions, so that events in these
-- may be appended to its log
pub record IsCurrent {D : Type 0} {G : Ghosts D} (halves : Halves D G) : Type 0 where
  pub saved : Saved
  pub text : text_of halves ≡ spell_half saved
  pub good : IsSaved saved
  pub newest : AreNewest saved.image.manifest

-- These events may come next to the world that the halves say, in the versions that they say, and
-- the WAL buffer has their bytes.
pub record IsNext {D : Type 0} {G : Ghosts D} (halves : Halves D G) (b : Batched) (w : World)
    (count generation : ℕ) (history : List Event) : Type 0 where
  pub rests : Rests halves w count generation
  pub current : IsCurrent halves
  pub legal : IsLegal w count history
  pub wal_buffer : IsWalBuffer b (logged_all w history)

-- the halves go on with the next generation, and a log that ends here
pub record Turned {D : Type 0} {G : Ghosts D} (old new : Halves D G) (log_end : ℕ) : Type 0 where
  pub going : is_halted new ≡ false
  pub at : end_of new ≡ log_end
  pub generation : generation_of new ≡ generation_of old + 1

-- the files store this world, which came after so many events, at this generation, or the one
-- after these events too, at the next
abbrev pub StoresOldOrImage : World → (count generation : ℕ) → List Event → CrashBytes → Type 0
StoresOldOrImage w count generation history outcome = Stores outcome w count generation
    ⊎ Stores outcome (world w history) (count + length history) (generation + 1)

-- the files store the world after the durable events, at its generation, or the present world, at
-- the next
abbrev pub HasOldOrSealed : Core → CrashBytes → Type 0
HasOldOrSealed core outcome =
    Stores outcome (durable_world core) (core.before + core.durable) core.generation
    ⊎ Stores outcome (present core) (core.before + length core.history) (core.generation + 1)

-- The bytes are those of a half, up to the closed gate of its empty log and but for the gate before
-- them. It has the next generation, and means the present world.
pub record IsSealing (core : Core) (bytes : List ℕ) : Type 0 where
  pub saved : Saved
  pub text : 1 ∷ bytes ≡ spell_half saved ++ 0 ∷ []
  pub good : IsSaved saved
  pub no_batch : saved.batches ≡ []
  pub means : meaning saved.image saved.header.events (log_of saved)
      ≡ Whole (present core) (core.before + length core.history)
  pub has_generation : saved.header.generation ≡ core.generation + 1

-- One of the two halves is taken, at the core's generation. It says an image with a count of all
-- events, and a log that has no batch yet, and means the present world. Its log ends where the core
-- says, and with a closed gate the file has at most 2^31 bytes.
pub record HasSealed {D : Type 0} (G : Ghosts D) (core : Core) (disk : D) : Type 0 where
  pub half : Half
  pub saved : Saved
  pub is_taken : taken (G.file disk Zero).now (G.file disk One).now ≡ Takes half saved
  pub has_generation : saved.header.generation ≡ core.generation
  pub events : saved.header.events ≡ core.before + length core.history
  pub no_batch : saved.batches ≡ []
  pub log_end : core.log_end ≡ length (spell_half saved)
  pub size : length (spell_half saved) < 2 ^ 31
  pub means : meaning_of saved ≡ Whole (present core) (core.before + length core.history)

-- The same of the world that the halves say with these events, which may come next.
pub record IsNextImage {D : Type 0} {G : Ghosts D} (halves : Halves D G) (bytes : List ℕ)
    (w : World) (count generation : ℕ) (history : List Event) : Type 0 where
  pub rests : Rests halves w count generation
  pub saved : Saved
  pub text : 1 ∷ before_gate bytes ≡ spell_half saved
  pub good : IsSaved saved
  pub means : meaning saved.image saved.header.events (log_of saved)
      ≡ Whole (world w history) (count + length history)
  pub has_generation : saved.header.generation ≡ generation + 1
