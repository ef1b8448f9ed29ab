-- The laws of faults, by which records are tested one after the other.
use Rattle.std.specs.Prelude.{◌≡◌, ℕ, ◌+◌, ◌<◌, List, [], ◌∷◌, ◌++◌, length, take, true, false, Some, None}
use Rattle.charmlet_model.specs.declared.message.Message.{Message}
use Rattle.charmlet_model.specs.declared.logged.CatchUpEntry.{CatchUpEntry}
use Rattle.charmlet_model.specs.declared.logged.Logged.{Logged}
use Rattle.charmlet_model.specs.World.{record_at}
use Rattle.charmlet_image.specs.Images.{Image}
use Rattle.charmlet_recovery.specs.Bases.{base, redelivered_all, recovered_world}
use Rattle.charmlet_recovery.specs.Faults.{Place, InCatchUp, InPending, InEvents, is_caught_up, catch_up_tests, was_sent, pending_tests, happens, first_failure, first_fault}
use Rattle.charmlet_recovery.specs.Meanings.{Faulty, meaning}

-- a fault is the place of a record, and no record before it, in its round or in an earlier one, has
-- a fault
abbrev pub FaultsArePlaces : Type 0
FaultsArePlaces = (image : Image) (before : ℕ) (log : List Logged) (i : ℕ) →
    (first_fault image before log ≡ Some (InCatchUp i) →
    (i < length image.caught_up)
    × (first_failure (catch_up_tests image.manifest image.records (take i image.caught_up))
    ≡ None))
    × (first_fault image before log ≡ Some (InPending i) →
    (i < length image.pending)
    × (first_failure (catch_up_tests image.manifest image.records image.caught_up) ≡ None)
    × (first_failure (pending_tests (base image) (take i image.pending)) ≡ None))
    × (first_fault image before log ≡ Some (InEvents i) → (i < length log)
    × (first_fault image before (take i log) ≡ None))

-- a fault that is found stays the first one, whatever records come after it
abbrev pub FaultsStay : Type 0
FaultsStay = (image : Image) (before : ℕ) (log more : List Logged) (place : Place) →
    meaning image before log ≡ Faulty place → meaning image before (log ++ more) ≡ Faulty place

-- A reader of the catch-up list goes on past a record that scans, and one that doesn't is the
-- first fault.
abbrev pub CatchUpGoesOn : Type 0
CatchUpGoesOn = (image : Image) (before : ℕ) (log : List Logged) (earlier later : List CatchUpEntry)
    (d : CatchUpEntry) → image.caught_up ≡ earlier ++ d ∷ later →
    first_failure (catch_up_tests image.manifest image.records earlier) ≡ None →
    (is_caught_up image.manifest (record_at (redelivered_all image.manifest image.records earlier)
    d.message.to) d ≡ true →
    first_failure (catch_up_tests image.manifest image.records (earlier ++ d ∷ [])) ≡ None)
    × (is_caught_up image.manifest
    (record_at (redelivered_all image.manifest image.records earlier) d.message.to) d ≡ false →
    meaning image before log ≡ Faulty (InCatchUp (length earlier)))

-- the same for the pending messages, if the catch-up list has no fault
abbrev pub PendingGoesOn : Type 0
PendingGoesOn = (image : Image) (before : ℕ) (log : List Logged) (earlier later : List Message)
    (m : Message) → image.pending ≡ earlier ++ m ∷ later →
    first_failure (catch_up_tests image.manifest image.records image.caught_up) ≡ None →
    first_failure (pending_tests (base image) earlier) ≡ None →
    (was_sent (base image) m.id.origin m.id.number
    ≡ true → first_failure (pending_tests (base image) (earlier ++ m ∷ [])) ≡ None)
    × (was_sent (base image) m.id.origin m.id.number ≡ false → meaning image before log
    ≡ Faulty (InPending (length earlier)))

-- the same for the events, if both have none
abbrev pub EventsGoOn : Type 0
EventsGoOn = (image : Image) (before : ℕ) (earlier later : List Logged) (l : Logged) →
    first_fault image before earlier ≡ None →
    (happens (recovered_world image earlier) (before + length earlier) l
    ≡ true → first_fault image before (earlier ++ l ∷ []) ≡ None)
    × (happens (recovered_world image earlier) (before + length earlier) l
    ≡ false → meaning image before (earlier ++ l ∷ later) ≡ Faulty (InEvents (length earlier)))

-- the rounds of catch-up and pending messages without a fault, and no event yet
abbrev pub RoundsEnd : Type 0
RoundsEnd = (image : Image) (before : ℕ) →
    first_failure (catch_up_tests image.manifest image.records image.caught_up) ≡ None →
    first_failure (pending_tests (base image) image.pending) ≡ None →
    first_fault image before [] ≡ None
