-- A checkpoint that runs while others work, and its token.
use Rattle.std.specs.Prelude.{◌≡◌, ℕ, ◌+◌, ◌<◌, ◌≤◌, Bool, true, false, max, List, length, Option, Some, None, slice_get, if◌then◌else◌}
use Rattle.charmlet_model.specs.declared.refusal.Refusal.{Refusal}
use Rattle.charmlet_model.specs.declared.refusal.Refusal.TheVariants as refusals
use Rattle.charmlet_model.specs.Core.{Commit, Core, next_core}
use Rattle.charmlet_persist.specs.FuzzyCheckpoint.Laws.{AreCapturedOn}
use Rattle.charmlet_persist.specs.FuzzyCheckpoint.Checkpoint.{AreAllCaptured, IsRunning, Run, with_delivery, with_images}
use Rattle.charmlet_persist.specs.FuzzyCheckpoint.Sealing.{PassesLimit}
use Rattle.charmlet_sequencer.specs.Checkpointing.{IsSealedCore}
use Rattle.charmlet_shelf.specs.declared.image.Image.{Image}
use Rattle.charmlet_hub.specs.Hub.{HubShown}

-- ---- what a hub has of it

-- What a token says: how many events there were when the checkpoint began, those before the opening
-- world among them, and how many shelves were handed in.
pub record Token : Type 0 where
  pub begun : ℕ
  pub shelves : ℕ

-- the shelves of the first processors were handed in: what stands there is captured
abbrev pub AreHandedIn : Core → Run → ℕ → Type 0
AreHandedIn core run shelves = (processor : ℕ) → processor < shelves →
    AreCapturedOn core run processor

-- A token that is out is the last that was given out, and knows when the checkpoint began and how
-- many shelves were handed in.
pub record IsToken (core : Core) (run : Run) (tokens : List (Option Token))
    (place : ℕ) (token : Token) : Type 0 where
  pub last : place + 1 ≡ length tokens
  pub begun : run.begun ≡ token.begun
  pub handed_in : AreHandedIn core run token.shelves

-- the checkpoint is one of this store, and has room for each assigned delivery
pub record IsCheckpoint (core : Core) (run : Run) (tokens : List (Option Token)) : Type 0 where
  pub running : IsRunning core run
  pub room : length core.assigned ≤ run.room
  pub token : (place : ℕ) (token : Token) → slice_get tokens place ≡ Some (Some token) →
      IsToken core run tokens place token

-- a checkpoint runs, or no token is out
abbrev pub IsCheckpointed : Core → Option Run → List (Option Token) → Type 0
IsCheckpointed core None tokens = (place : ℕ) (token : Token) →
    slice_get tokens place ≡ Some (Some token) → ⊥
IsCheckpointed core (Some run) tokens = IsCheckpoint core run tokens

-- ---- deliveries while it runs

-- there is room for a delivery
pub record HasRoom (core : Core) (run : Run) : Type 0 where
  pub running : IsRunning core run
  pub room : 1 ≤ run.room

-- with room for at least so many
abbrev pub roomier : ℕ → Option Run → Option Run
roomier deliveries None = None
roomier deliveries (Some run) = Some (record run { room = max run.room deliveries })

-- The processor's delivery is recorded. Once it is committed, what was captured on a processor
-- still is.
pub record NotesDelivery (core : Core) (processor : ℕ) (old new : Run) : Type 0 where
  pub noted : new ≡ with_delivery core processor old
  pub running : IsRunning (next_core core (Commit processor)) new
  pub settled : (other : ℕ) → AreCapturedOn core old other →
      AreCapturedOn (next_core core (Commit processor)) new other

-- the same, if a checkpoint runs
abbrev pub IsNoted : Core → ℕ → Option Run → Option Run → Type 0
IsNoted core processor None new = new ≡ None
IsNoted core processor (Some old) new = (run : Run) × (new ≡ Some run)
    × NotesDelivery core processor old run

-- ---- images

-- with these images, if one runs
abbrev pub with_images_if : Option Run → List Image → Option Run
with_images_if None images = None
with_images_if (Some run) images = Some (record run {
  captured = with_images run.captured images;
})

-- ---- its beginning and its end

-- A checkpoint of this store that began after so many events, and to which all shelves were handed
-- in, would pass a limit.
pub record IsTooLarge (core : Core) (begun : ℕ) : Type 0 where
  pub run : Run
  pub when : run.begun ≡ begun
  pub running : IsRunning core run
  pub settled : AreAllCaptured core run
  pub passes : PassesLimit core run

-- the refusal isn't for the device
abbrev pub is_no_device : Refusal → Bool
is_no_device refusals.Device = false
is_no_device _ = true

module _ {D : Type 0} where
  -- why a checkpoint doesn't begin
  abbrev pub begin_refusal : HubShown D → Refusal
  begin_refusal hub = if hub.core.halted then refusals.Halted
      else (if hub.busy then refusals.Checkpointing else refusals.Memory)

  -- it ends: all events are durable by an image of the next generation, within the limit of a file
  abbrev pub IsSealed : HubShown D → HubShown D → Type 0
  IsSealed hub next = IsSealedCore hub.core next.core
      × (next ≡ record hub { core = next.core; busy = false; disk = next.disk })
