-- The laws of a fuzzy checkpoint: what other steps of its store keep.
use Rattle.std.specs.Prelude.{◌≡◌, ℕ, true, is_some, List, Some}
use Rattle.std.specs.List.{All}
use Rattle.std.specs.Map.{keys_of}
use Rattle.charmlet_model.specs.declared.names.Elem.{Elem}
use Rattle.charmlet_model.specs.declared.names.MsgId.{MsgId}
use Rattle.charmlet_model.specs.declared.state.Record.{Record}
use Rattle.charmlet_model.specs.Core.{Assign, Core, Commit, Flush, Release, Request, halted_core, next_core, place_of, present}
use Rattle.charmlet_model.specs.Sound.{IsSound}
use Rattle.charmlet_shelf.specs.declared.image.Image.{Image}
use Rattle.charmlet_shelf.specs.Image.{AreImages}
use Rattle.charmlet_delivery.specs.Workplace.{ShowsOn}
use Rattle.charmlet_history.specs.Kept.{IsAssignedOutput}
use Rattle.charmlet_chare.specs.declared.output.Output.{Output}
use Rattle.charmlet_persist.specs.FuzzyCheckpoint.Checkpoint.{AreAllCaptured, IsRunning, IsShownBy, Run, captured_of, with_delivery, with_images}

-- ---- steps that are no delivery

-- a request changes no record, and is no delivery
abbrev pub RequestsKeepRunning : Type 0
RequestsKeepRunning = (core : Core) (run : Run) (client number : ℕ) (to : Elem) (entry : ℕ)
    (words : List ℕ) → IsRunning core run →
    IsRunning (next_core core (Request client number to entry words)) run

-- a flush adds no event
abbrev pub FlushesKeepRunning : Type 0
FlushesKeepRunning = (core : Core) (run : Run) → IsRunning core run →
    IsRunning (next_core core Flush) run

-- nor does an assignment
abbrev pub AssignmentsKeepRunning : Type 0
AssignmentsKeepRunning = (core : Core) (run : Run) (processor : ℕ) (id : MsgId) →
    IsRunning core run → IsRunning (next_core core (Assign processor id)) run

-- nor does a release
abbrev pub ReleasesKeepRunning : Type 0
ReleasesKeepRunning = (core : Core) (run : Run) (processor : ℕ) → IsRunning core run →
    IsRunning (next_core core (Release processor)) run

-- nor does a failure of the device
abbrev pub HaltsKeepRunning : Type 0
HaltsKeepRunning = (core : Core) (run : Run) → IsRunning core run →
    IsRunning (halted_core core) run

-- A delivery that is noted is of the store in which it is made. A commit and a finish lead to the
-- same.
abbrev pub RecordedDeliveriesKeepRunning : Type 0
RecordedDeliveriesKeepRunning = (core : Core) (run : Run) (processor : ℕ) (output : Output) →
    IsRunning core run → IsAssignedOutput core processor output →
    IsRunning (next_core core (Commit processor)) (with_delivery core processor run)

-- ---- what is captured

-- each element that stands on the processor is captured
abbrev pub AreCapturedOn : Core → Run → ℕ → Type 0
AreCapturedOn core run processor = (x : Elem) → place_of core x ≡ Some processor →
    is_some (captured_of run.captured x) ≡ true

-- images capture their elements
abbrev pub ImagesCapture : Type 0
ImagesCapture = (run : Run) (images : List Image) →
    All (λ (image : Image). is_some (captured_of (with_images run.captured images) image.elem)
    ≡ true) images

-- and what was captured stays so
abbrev pub ImagesKeepCaptured : Type 0
ImagesKeepCaptured = (run : Run) (images : List Image) (x : Elem) →
    is_some (captured_of run.captured x) ≡ true →
    is_some (captured_of (with_images run.captured images) x) ≡ true

-- A delivery keeps what stands on a processor captured, once that is: a new element is captured
-- when it is constructed.
abbrev pub DeliveriesKeepCaptured : Type 0
DeliveriesKeepCaptured = (core : Core) (run : Run) (committing processor : ℕ) (output : Output) →
    IsSound core → IsRunning core run → IsAssignedOutput core committing output →
    AreCapturedOn core run processor →
    AreCapturedOn (next_core core (Commit committing)) (with_delivery core committing run) processor

-- where what stands on each processor is captured, all that is there is
abbrev pub ProcessorsAreAll : Type 0
ProcessorsAreAll = (core : Core) (run : Run) → IsSound core →
    ((processor : ℕ) → AreCapturedOn core run processor) → AreAllCaptured core run

-- The images of a shelf that shows its part of the present world are of elements that are there,
-- and capture all that stands on its processor.
abbrev pub ShelvesAreTaken : Type 0
ShelvesAreTaken = (core : Core) (run : Run) (processor : ℕ) (records : List (Elem × Record))
    (images : List Image) → IsSound core →
    ShowsOn processor records core.places (present core) →
    AreImages records (keys_of records) images → All (IsShownBy (present core)) images
    × AreCapturedOn core (record run { captured = with_images run.captured images }) processor
