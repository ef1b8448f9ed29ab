-- The laws of what an image and its log come to.
use Rattle.std.specs.Prelude.{◌≡◌, ℕ, ◌+◌, ◌^◌, ◌<◌, ◌≤◌, List, ◌++◌, length, take, is_some, true, false}
use Rattle.std.specs.List.{AllByRecursion}
use Rattle.charmlet_model.specs.declared.names.Elem.{Elem}
use Rattle.charmlet_model.specs.declared.event.Event.{Event}
use Rattle.charmlet_model.specs.declared.logged.Logged.{Logged}
use Rattle.charmlet_model.specs.World.{World, world, record_of, IsLegal}
use Rattle.charmlet_model.specs.Fit.{IsFit}
use Rattle.charmlet_model.specs.Logging.{logged_all}
use Rattle.charmlet_record.specs.Written.{IsLogged}
use Rattle.charmlet_image.specs.declared.header.Mark.{Mark}
use Rattle.charmlet_image.specs.Images.{Image}
use Rattle.charmlet_image.specs.FitImages.{image_of}
use Rattle.charmlet_image.specs.Written.{IsImage}
use Rattle.charmlet_recovery.specs.Bases.{base, events_of, recovered_world}
use Rattle.charmlet_recovery.specs.Moments.{IsTakenDuring, deliveries, moment}
use Rattle.charmlet_recovery.specs.Meanings.{Whole, meaning}

-- an image of a fit world, with the log of a legal history, comes to the world after the history,
-- without a fault
abbrev pub HistoriesRecover : Type 0
HistoriesRecover = (w : World) (before : ℕ) (history : List Event) → IsFit w →
    IsLegal w before history →
    meaning (image_of w) before (logged_all w history) ≡ Whole (world w history)
    (before + length history)

-- Whatever image and log came to a fit world, with the log of legal events appended they come to
-- the world after these.
abbrev pub AppendedEventsRecover : Type 0
AppendedEventsRecover = (image : Image) (before : ℕ) (log : List Logged) (w : World) (count : ℕ)
    (more : List Event) →
    meaning image before log ≡ Whole w count → IsFit w → IsLegal w count more →
    meaning image before (log ++ logged_all w more) ≡ Whole (world w more) (count + length more)

-- An image whose records were taken at different moments, with the deliveries made meanwhile and
-- the log of what came then, comes to the world after all. Without a log that is the world at the
-- seal.
abbrev pub SealsRecover : Type 0
SealsRecover = (w : World) (before : ℕ) (events more : List Event) (image : Image) → IsFit w →
    IsLegal w before (events ++ more) →
    IsTakenDuring w events image →
    meaning image (before + length events) (logged_all (world w events) more)
    ≡ Whole (world w (events ++ more)) (before + length (events ++ more))

-- The moment of an element comes at the latest when its shelf is reached. Before it the element is
-- present, and where it comes earlier, it is absent then or no event is left.
abbrev pub MomentsOfShelves : Type 0
MomentsOfShelves = (x : Elem) (n : ℕ) (w : World) (events : List Event) →
    (moment x n w events ≤ n)
    × ((k : ℕ) → k < moment x n w events → is_some (record_of (world w (take k events)) x).state
    ≡ true)
    × (moment x n w events < n → moment x n w events
    < length events → is_some (record_of (world w (take (moment x n w events) events)) x).state
    ≡ false)

-- more events add their deliveries at the end of the catch-up list
abbrev pub DeliveriesGrow : Type 0
DeliveriesGrow = (w : World) (events more : List Event) → deliveries w (events ++ more)
    ≡ deliveries w events ++ deliveries (world w events) more

-- An image and a log that the format has and that have no fault, whoever wrote them, come to a fit
-- world and a count within its limit. The image gives a fit world too, the log is that of a legal
-- history from there on, and the world is the one after it.
pub record IsSoundMeaning (image : Image) (before : ℕ) (log : List Logged) (w : World)
    (count : ℕ) : Type 0 where
  pub base_fit : IsFit (base image)
  pub legal : IsLegal (base image) before (events_of log)
  pub written : logged_all (base image) (events_of log) ≡ log
  pub world_after : w ≡ recovered_world image log
  pub world_fit : IsFit w
  pub counted : count ≡ before + length log
  pub in_limit : count ≤ 2 ^ 40

-- the meaning of an image and a log in the format, without a fault, is sound
abbrev pub FaultlessIsSound : Type 0
FaultlessIsSound = (mark : Mark) (image : Image) (before : ℕ) (log : List Logged) (w : World)
    (count : ℕ) → IsImage mark image → before ≤ 2 ^ 40 →
    AllByRecursion (IsLogged image.manifest) log → meaning image before log ≡ Whole w count →
    IsSoundMeaning image before log w count
