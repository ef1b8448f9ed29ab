-- The laws of the blanks that a restart needs.
use Rattle.std.specs.Prelude.{◌≡◌, ℕ, ◌+◌, ◌^◌, ◌≤◌, List, ◌∷◌, ◌++◌, take, false, Some, None}
use Rattle.std.specs.List.{AllByRecursion}
use Rattle.charmlet_model.specs.declared.kind.Kind.{Kind}
use Rattle.charmlet_model.specs.declared.names.MsgId.{MsgId}
use Rattle.charmlet_model.specs.declared.message.Message.{Message}
use Rattle.charmlet_model.specs.declared.message.Outgoing.{Outgoing}
use Rattle.charmlet_model.specs.declared.logged.Effect.TheVariants.{Constructed}
use Rattle.charmlet_model.specs.declared.logged.CatchUpEntry.{CatchUpEntry}
use Rattle.charmlet_model.specs.declared.logged.Logged.{Logged}
use Rattle.charmlet_model.specs.declared.logged.Logged.TheVariants.{Deliver}
use Rattle.charmlet_model.specs.World.{record_at, message_among}
use Rattle.charmlet_record.specs.Written.{IsLogged}
use Rattle.charmlet_image.specs.declared.header.Mark.{Mark}
use Rattle.charmlet_image.specs.Images.{Image}
use Rattle.charmlet_image.specs.Written.{IsImage}
use Rattle.charmlet_recovery.specs.Bases.{is_skipped, redelivered_all, recovered_world}
use Rattle.charmlet_recovery.specs.Faults.{catch_up_tests, first_failure, first_fault}
use Rattle.charmlet_recovery.specs.Blanks.{array_is, one_if, wanted, wanted_by_records, made, made_by_catch_up}

-- If there is no fault, what is written wants exactly as many blanks of each kind as a recovery
-- makes objects of it.
abbrev pub BlanksAreThoseMade : Type 0
BlanksAreThoseMade = (mark : Mark) (image : Image) (before : ℕ) (log : List Logged) (kind : Kind) →
    IsImage mark image → before ≤ 2 ^ 40 →
    AllByRecursion (IsLogged image.manifest) log → first_fault image before log ≡ None →
    wanted image log kind ≡ made image log kind

-- up to the first fault no more objects of a kind are made than are wanted by all that is written
abbrev pub BlanksSuffice : Type 0
BlanksSuffice = (mark : Mark) (image : Image) (before : ℕ) (log : List Logged) (kind : Kind) →
    ((i : ℕ) → first_failure (catch_up_tests image.manifest image.records (take i image.caught_up))
    ≡ None →
    wanted_by_records image.manifest kind image.records
    + made_by_catch_up image.manifest kind image.records (take i image.caught_up)
    ≤ wanted image log kind)
    × ((i : ℕ) → IsImage mark image → AllByRecursion (IsLogged image.manifest) log →
    first_fault image before (take i log) ≡ None →
    made image (take i log) kind ≤ wanted image log kind)

-- So a replay that takes a blank at each written construction finds one, even at the record that
-- proves faulty.
abbrev pub BlanksSufficeNext : Type 0
BlanksSufficeNext = (mark : Mark) (image : Image) (before : ℕ) (kind : Kind) →
    ((earlier later : List CatchUpEntry) (d : CatchUpEntry) (log : List Logged) → image.caught_up
    ≡ earlier
    ++ d ∷ later →
    first_failure (catch_up_tests image.manifest image.records earlier) ≡ None →
    is_skipped (record_at (redelivered_all image.manifest image.records earlier) d.message.to) d
    ≡ false → d.effect ≡ Constructed →
    wanted_by_records image.manifest kind image.records
    + made_by_catch_up image.manifest kind image.records earlier
    + one_if (array_is image.manifest kind d.message.to.array) ≤ wanted image log kind)
    × ((earlier later : List Logged) (id : MsgId) (received : ℕ) (sends : List Outgoing)
    (m : Message) → IsImage mark image → AllByRecursion (IsLogged image.manifest) earlier →
    first_fault image before earlier ≡ None →
    message_among id (recovered_world image earlier).pending ≡ Some m →
    made image earlier kind + one_if (array_is image.manifest kind m.to.array)
    ≤ wanted image (earlier ++ Deliver id received Constructed sends ∷ later) kind)
