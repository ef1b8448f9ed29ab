-- Engines that come back, and what is given back where none does.
use Rattle.std.specs.Prelude.{◌≡◌, ◌≢◌, ◌⊎◌, ℕ, ◌+◌, Bool, true, false, List, length, if◌then◌else◌, IfErr, Option, Some, None, Result, Ok, Err}
use Rattle.charmlet_model.specs.declared.half.Half.{Half}
use Rattle.charmlet_model.specs.declared.half.Half.TheVariants.{Zero, One}
use Rattle.charmlet_model.specs.declared.event.Event.{Event}
use Rattle.charmlet_model.specs.declared.kind.Kind.{Kind}
use Rattle.charmlet_model.specs.declared.refusal.Refusal.{Refusal}
use Rattle.charmlet_model.specs.declared.refusal.Refusal.TheVariants as refusals
use Rattle.charmlet_model.specs.World.{World}
use Rattle.charmlet_model.specs.Core.{Blanks, Checkpoint, Core, next_core, present}
use Rattle.charmlet_model.specs.Run.{StoreView}
use Rattle.charmlet_model.specs.Sound.{opened}
use Rattle.charmlet_chare.specs.declared.chare.Chare as chares
use Rattle.charmlet_disk.specs.declared.disk.Disk as disks
use Rattle.charmlet_disk.specs.Calls.{IsUnwritten}
use Rattle.charmlet_disk.specs.Disk.{IsSettled, LeavesOnly}
use Rattle.charmlet_disk.specs.File.{File, MayLeave, CrashBytes}
use Rattle.charmlet_image.specs.Images.{Saved, spell_half}
use Rattle.charmlet_image.specs.Halves.{Open, Takes, found, taken}
use Rattle.charmlet_recovery.specs.Meanings.{Whole}
use Rattle.charmlet_recovery.specs.Recovered.{Found, is_current, meaning_of, recovered}
use Rattle.charmlet_recovery.specs.Restarts.{image_end, image_refusal, limit_refusal, wanted_of, wants_image}
use Rattle.charmlet_halves.specs.declared.halves.Halves.{Halves}
use Rattle.charmlet_halves.specs.Halves.{disk_of, end_of, taken_half}
use Rattle.charmlet_locate.specs.Locations.{is_processor_count}
use Rattle.charmlet_stock.specs.declared.stock.Stock.{Stock}
use Rattle.charmlet_stock.specs.Stock.{blanks_in}
use Rattle.charmlet_recover.specs.declared.restarted.NotRestarted.{NotRestarted}
use Rattle.charmlet_recover.specs.Restart.{IsSameStock, IsShortOfSome, OpensWithin, bytes_on, is_after_sync, is_lack, is_restart_refusal}
use Rattle.charmlet_engine.specs.Engine.{EngineShown, HasImage, core_of, supplied_of, view_of}
use Rattle.charmlet_engine.specs.Outcomes.{is_lawful_now}

-- ---- what comes back

-- nothing has happened in the store since it opened, and each element that is there has its home
-- for its place
abbrev pub IsOpenedOn : ℕ → Core → Type 0
IsOpenedOn processors core = core
    ≡ opened processors core.opening core.before core.generation core.log_end

-- The store opens with what a half means: its world, which came after so many events. It goes on at
-- the half's generation, and its log where that of the half ends; or, where the half isn't current,
-- at the next generation, after an image of that world. Of each kind the stock has what the half
-- didn't want of the blanks.
pub record ComesFrom (given : Blanks) (store : StoreView) (s : Saved) : Type 0 where
  pub means : meaning_of s ≡ Whole store.core.opening store.core.before
  pub generation : store.core.generation
      ≡ (if is_current s then s.header.generation else s.header.generation + 1)
  pub log_end : store.core.log_end
      ≡ (if is_current s then length (spell_half s) else image_end store.core.opening)
  pub left : (kind : Kind) → store.blanks kind + wanted_of s kind ≡ given kind

-- on any disk, it comes from the bytes of some half
pub record IsReadFrom (given : Blanks) (store : StoreView) : Type 0 where
  pub bytes : List ℕ
  pub saved : Saved
  pub is_open : found bytes ≡ Open saved
  pub comes : ComesFrom given store saved

-- on an honest one, from the half that is taken
pub record IsTakenFrom (given : Blanks) (outcome : CrashBytes) (store : StoreView) : Type 0 where
  pub half : Half
  pub saved : Saved
  pub is_taken : taken (outcome Zero) (outcome One) ≡ Takes half saved
  pub comes : ComesFrom given store saved

-- which is this one
abbrev pub IsTaken : CrashBytes → Half → Type 0
IsTaken outcome half = (s : Saved) × (taken (outcome Zero) (outcome One) ≡ Takes half s)

-- The files recover to the world with which the store opens, and that came after as many events: at
-- the store's generation, or at the one before where an image was wanted.
pub record IsFound (outcome : CrashBytes) (core : Core) : Type 0 where
  pub generation : ℕ
  pub is : recovered outcome ≡ Found core.opening core.before generation
  pub at : core.generation ≡ (if wants_image outcome then generation + 1 else generation)

-- ---- the disk

-- the files recover to the world to which the first ones did, at their generation or the next
pub record IsSameOrNext (first outcome : CrashBytes) : Type 0 where
  pub world : World
  pub count : ℕ
  pub generation : ℕ
  pub was : recovered first ≡ Found world count generation
  pub is : (recovered outcome ≡ Found world count generation)
      ⊎ (recovered outcome ≡ Found world count (generation + 1))

-- a crash leaves what one before the restart might have left, or files that recover to the world to
-- which these do, at their generation or the next
abbrev pub IsLeftByRestart : (Half → File) → CrashBytes → Type 0
IsLeftByRestart files outcome = MayLeave files outcome ⊎ IsSameOrNext (bytes_on files) outcome

-- ---- why a restart is refused

-- a restart that writes an image where one is wanted is refused for nothing else
abbrev pub is_engine_refusal : Refusal → Bool
is_engine_refusal refusals.ImageFull = true
is_engine_refusal refusal = is_restart_refusal refusal

-- after a crash something is lacking, or an image is wanted that can't be written; nothing else in
-- the files is the cause
abbrev pub IsLackOrFull : CrashBytes → Refusal → Type 0
IsLackOrFull outcome refusal = (is_lack refusal ≡ true)
    ⊎ ((refusal ≡ refusals.ImageFull) × (wants_image outcome ≡ true))

-- a restart after a crash comes to such a store, or is refused so
abbrev pub AnswersAfterCrash : World → ℕ → List Event → ℕ → CrashBytes → Result Core Refusal →
    Type 0
AnswersAfterCrash w before history durable outcome (Ok core) =
    OpensWithin w before history durable core
AnswersAfterCrash w before history durable outcome (Err refusal) = IsLackOrFull outcome refusal

-- on any disk, an image is refused where the bytes of some half mean a world of which none can be
-- written, and want one
abbrev pub IsFullOfSome : Refusal → Type 0
IsFullOfSome refusals.ImageFull = (bytes : List ℕ) × (s : Saved) × (found bytes ≡ Open s)
    × (image_refusal s (meaning_of s) ≡ Some refusals.ImageFull)
IsFullOfSome _ = Unit {0}

-- ---- a store that goes on

-- its core stays as it is where its half is current, and else an image of it was written
abbrev pub gone_on : Bool → Core → Core
gone_on true core = core
gone_on false core = next_core core Checkpoint

-- why none can be, where one is wanted
abbrev pub going_refusal : Bool → Core → Option Refusal
going_refusal true core = None
going_refusal false core = limit_refusal core.generation (present core)

-- the engine is on these halves
pub record IsOn {D : Type 0} {G : disks.Ghosts D} (halves : Halves D G) (engine : EngineShown D)
    : Type 0 where
  pub disk : engine.disk ≡ disk_of halves
  pub half : engine.half ≡ taken_half halves
  pub log_end : engine.log_end ≡ end_of halves

module _ {D C : Type 0} {H : chares.Ghosts C} where
  -- the core of the engine that came back, or why none did
  abbrev pub core_or_refusal : Result (EngineShown D) (NotRestarted D C H) → Result Core Refusal
  core_or_refusal (Ok engine) = Ok (core_of engine)
  core_or_refusal (Err refused) = Err refused.refusal

  -- the disk afterwards, which the engine owns or which was handed back
  abbrev pub disk_after : Result (EngineShown D) (NotRestarted D C H) → D
  disk_after (Ok engine) = engine.disk
  disk_after (Err refused) = refused.disk

  -- an engine came back on these halves
  abbrev pub CameBackOn : {G : disks.Ghosts D} → Halves D G →
      Result (EngineShown D) (NotRestarted D C H) → Type 0
  CameBackOn halves (Ok engine) = IsOn halves engine
  CameBackOn halves (Err refused) = ⊥

  -- the number of processors is refused before anything is done: what was handed in comes back
  abbrev pub IsHandedBack : D → Stock C H → Result (EngineShown D) (NotRestarted D C H) → Type 0
  IsHandedBack disk blanks (Ok engine) = ⊥
  IsHandedBack disk blanks (Err refused) = (refused.refusal ≡ refusals.BadPes)
      × (refused.disk ≡ disk) × (refused.blanks ≡ blanks)

  -- ---- the promises of a restart

  -- What is so of a refusal on any disk. It is one of a restart's. BadPes comes only where there
  -- aren't so many processors; BlanksWanted only where the bytes of some half want more blanks than
  -- were given; and ImageFull only where those of some half want an image, and of what they mean
  -- none can be written. Which bytes these are isn't said, since a disk that isn't honest may let
  -- anything be read; nor is a cause of any other refusal. The objects come back as blanks.
  pub record IsRefused (processors : ℕ) (blanks : Stock C H) (refused : NotRestarted D C H)
      : Type 0 where
    pub bad : refused.refusal ≡ refusals.BadPes → is_processor_count processors ≡ false
    pub known : is_engine_refusal refused.refusal ≡ true
    pub short : IsShortOfSome (blanks_in blanks) refused.refusal
    pub full : IsFullOfSome refused.refusal
    pub back : IsSameStock blanks refused.blanks

  -- What a restart leaves of an honest disk: once both halves were synced they are settled; nothing
  -- is written where no image is wanted, and at each refusal but Device; and a crash leaves the
  -- world that was there.
  pub record LeavesTaken (G : disks.Ghosts D) (disk : D)
      (result : Result (EngineShown D) (NotRestarted D C H)) : Type 0 where
    pub settled : is_after_sync (core_or_refusal result) ≡ true →
        IsSettled (G.file (disk_after result))
    pub still : wants_image (bytes_on (G.file disk)) ≡ false →
        IsUnwritten G disk (disk_after result)
    pub unwritten : IfErr result (λ refused. refused.refusal ≢ refusals.Device →
        IsUnwritten G disk refused.disk)
    pub any_moment : LeavesOnly G.moment G.since disk (disk_after result)
        (IsLeftByRestart (G.file disk))

module _ {D : Type 0} where
  -- The engine came back on so many processors, from the bytes of some half, with the objects that
  -- were handed in.
  pub record CameBack (processors : ℕ) (given supplied : Blanks) (engine : EngineShown D)
      : Type 0 where
    pub opens : IsOpenedOn processors (core_of engine)
    pub read : IsReadFrom given (view_of engine)
    pub supplied_are : supplied_of engine ≡ supplied

  -- On an honest disk it came from what the files recover to, and from the half that is taken. It
  -- goes on in that half, or, where an image is wanted, in one of it; and each crash is lawful.
  pub record CameFromFiles (G : disks.Ghosts D) (given : Blanks) (outcome : CrashBytes)
      (engine : EngineShown D) : Type 0 where
    pub found : IsFound outcome (core_of engine)
    pub taken_from : IsTakenFrom given outcome (view_of engine)
    pub stays : wants_image outcome ≡ false → IsTaken outcome engine.half
    pub image : wants_image outcome ≡ true → HasImage G engine
    pub now : (left : CrashBytes) → MayLeave (G.file engine.disk) left →
        is_lawful_now (core_of engine) left
