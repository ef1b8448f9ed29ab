-- Stores that come back from two halves, and what is given back where none does.
use Rattle.std.specs.Prelude.{◌≡◌, ℕ, ◌+◌, ◌-◌, ◌≤◌, ◌&&◌, Bool, true, false, List, length, take, Option, Some, None, Result, Ok, Err}
use Rattle.charmlet_model.specs.declared.half.Half.{Half}
use Rattle.charmlet_model.specs.declared.half.Half.TheVariants.{Zero, One}
use Rattle.charmlet_model.specs.declared.event.Event.{Event}
use Rattle.charmlet_model.specs.declared.kind.Kind.{Kind}
use Rattle.charmlet_model.specs.declared.refusal.Refusal.{Refusal}
use Rattle.charmlet_model.specs.declared.refusal.Refusal.TheVariants as refusals
use Rattle.charmlet_model.specs.World.{World, world}
use Rattle.charmlet_model.specs.Core.{Blanks, Core}
use Rattle.charmlet_model.specs.Sound.{opened}
use Rattle.charmlet_chare.specs.declared.chare.Chare as chares
use Rattle.charmlet_disk.specs.declared.disk.Disk as disks
use Rattle.charmlet_disk.specs.Calls.{IsUnwritten}
use Rattle.charmlet_disk.specs.Disk.{IsSettled}
use Rattle.charmlet_disk.specs.File.{File, CrashBytes}
use Rattle.charmlet_image.specs.Images.{Saved, spell_half}
use Rattle.charmlet_image.specs.Halves.{Open, Takes, found, taken}
use Rattle.charmlet_recovery.specs.Blanks.{least_short}
use Rattle.charmlet_recovery.specs.Meanings.{Whole}
use Rattle.charmlet_recovery.specs.Recovered.{Found, is_current, meaning_of, recovered}
use Rattle.charmlet_recovery.specs.Restarts.{wanted_of}
use Rattle.charmlet_halves.specs.Halves.{disk_of, taken_half}
use Rattle.charmlet_history.specs.Kept.{core_in}
use Rattle.charmlet_locate.specs.Locations.{is_processor_count}
use Rattle.charmlet_persist.specs.Writes.Rest.{GoesOn, IsCurrent, IsKept}
use Rattle.charmlet_stock.specs.ByKind.{for_all}
use Rattle.charmlet_stock.specs.declared.stock.Stock.{Stock}
use Rattle.charmlet_stock.specs.Stock.{blanks_in, census_of, keeping_of}
use Rattle.charmlet_record.specs.declared.reader.ReadError.{ReadError}
use Rattle.charmlet_record.specs.declared.reader.ReadError.TheVariants.{Damaged, Memory}
use Rattle.charmlet_replay.specs.declared.replayed.Replayed.{Replayed}
use Rattle.charmlet_recover.specs.declared.half_replay.NotReopened.{NotReopened}
use Rattle.charmlet_recover.specs.declared.restarted.Recovered.{Recovered}
use Rattle.charmlet_recover.specs.declared.restarted.NotRestarted.{NotRestarted}
use Rattle.charmlet_store.specs.Store.{blanks_of, supplied_in}

-- ---- what is handed in, and back

-- of each kind as many objects were supplied, are blanks and were retired, and what is retired goes
-- where it went
pub record IsSameStock {C : Type 0} {G : chares.Ghosts C} (old new : Stock C G) : Type 0 where
  pub census : census_of new ≡ census_of old
  pub keeping : keeping_of new ≡ keeping_of old

-- ---- the disk

-- what a read of each half gives
abbrev pub bytes_on : (Half → File) → CrashBytes
bytes_on files half = (files half).now

-- On an honest disk nothing was written; and where both halves were synced, they are settled.
pub record LeavesSynced {D : Type 0} (G : disks.Ghosts D) (old new : D) (is_synced : Bool)
    : Type 0 where
  pub settled : is_synced ≡ true → IsSettled (G.file new)
  pub unwritten : IsUnwritten G old new

-- there are so many processors and workers
abbrev pub are_counts : ℕ → ℕ → Bool
are_counts processors workers = is_processor_count processors && is_processor_count workers

-- ---- why a restart is refused

-- a restart is refused for nothing else
abbrev pub is_restart_refusal : Refusal → Bool
is_restart_refusal refusals.BadPes = true
is_restart_refusal refusals.Device = true
is_restart_refusal (refusals.Damaged half offset) = true
is_restart_refusal refusals.NothingHere = true
is_restart_refusal (refusals.BlanksWanted kind count) = true
is_restart_refusal refusals.Memory = true
is_restart_refusal _ = false

-- what a half means comes back, or is refused so
abbrev pub is_half_refusal : Refusal → Bool
is_half_refusal (refusals.Damaged half offset) = true
is_half_refusal (refusals.BlanksWanted kind count) = true
is_half_refusal refusals.Memory = true
is_half_refusal _ = false

-- nor after a crash for anything in the files
abbrev pub is_lack : Refusal → Bool
is_lack refusals.BadPes = true
is_lack refusals.Device = true
is_lack (refusals.BlanksWanted kind count) = true
is_lack refusals.Memory = true
is_lack _ = false

-- where there is a cause it is refused so, and else it is done, unless memory is refused or the
-- device fails
abbrev pub AnswersBy : {X : Type 0} → Option Refusal → Result X Refusal → Type 0
AnswersBy why (Ok x) = why ≡ None
AnswersBy why (Err refusals.Memory) = Unit {0}
AnswersBy why (Err refusals.Device) = Unit {0}
AnswersBy why (Err refusal) = why ≡ Some refusal

-- both halves were synced before this was refused
abbrev pub is_refused_after_sync : Refusal → Bool
is_refused_after_sync refusals.BadPes = false
is_refused_after_sync refusals.Device = false
is_refused_after_sync _ = true

-- or answered
abbrev pub is_after_sync : {X : Type 0} → Result X Refusal → Bool
is_after_sync (Ok x) = true
is_after_sync (Err refusal) = is_refused_after_sync refusal

-- ---- what comes back

-- the world with which the store opens is the one after some events of the history, the durable
-- ones among them
pub record OpensWithin (w : World) (before : ℕ) (history : List Event) (durable : ℕ)
    (core : Core) : Type 0 where
  pub kept : ℕ
  pub durable_kept : durable ≤ kept
  pub none_invented : kept ≤ length history
  pub opening : core.opening ≡ world w (take kept history)
  pub count : core.before ≡ before + kept

module _ {D C : Type 0} {G : disks.Ghosts D} where
  -- the core of the store that came back
  abbrev pub core_of : Recovered D C G → Core
  core_of back = core_in back.store.history

  -- the store that came back, and whether events may be appended to the half
  abbrev pub replayed_in : Recovered D C G → Replayed C
  replayed_in back = record { store = back.store; is_current = back.is_current }

  -- nothing has happened in the store since it opened, and each element that is there has its home
  -- for its place
  abbrev pub IsOpenedOn : ℕ → Recovered D C G → Type 0
  IsOpenedOn processors back = core_of back
      ≡ opened processors (core_of back).opening (core_of back).before (core_of back).generation
      (core_of back).log_end

  -- The store opens with what a half means: its world, which came after so many events, at its
  -- generation. Its log ends where that of the half does, and of each kind the stock has what the
  -- half didn't want of the blanks.
  pub record OpensWith (given : Blanks) (back : Recovered D C G) (s : Saved) : Type 0 where
    pub means : meaning_of s ≡ Whole (core_of back).opening (core_of back).before
    pub current : back.is_current ≡ is_current s
    pub generation : (core_of back).generation ≡ s.header.generation
    pub log_end : (core_of back).log_end ≡ length (spell_half s)
    pub left : (kind : Kind) → blanks_of back.store kind + wanted_of s kind ≡ given kind

  -- on any disk, the store opens with what the bytes of some half mean
  abbrev pub IsReadFrom : Blanks → Recovered D C G → Type 0
  IsReadFrom given back = (bytes : List ℕ) × (s : Saved) × (found bytes ≡ Open s)
      × OpensWith given back s

  -- on an honest one, with what the half means that is taken
  abbrev pub IsTakenFrom : Blanks → CrashBytes → Recovered D C G → Type 0
  IsTakenFrom given outcome back = (s : Saved)
      × (taken (outcome Zero) (outcome One) ≡ Takes (taken_half back.halves) s)
      × OpensWith given back s

  -- a restart after a crash comes to such a store, or lacks memory, blanks or a device, or is asked
  -- for a wrong number of processors
  abbrev pub AnswersAfterCrash : World → ℕ → List Event → ℕ →
      Result (Recovered D C G) Refusal → Type 0
  AnswersAfterCrash w before history durable (Ok back) =
      OpensWithin w before history durable (core_of back)
  AnswersAfterCrash w before history durable (Err refusal) = is_lack refusal ≡ true

module _ {D C : Type 0} {G : disks.Ghosts D} {H : chares.Ghosts C} where
  -- the disk afterwards, which the halves own or which was handed back
  abbrev pub disk_after : Result (Recovered D C G) (NotRestarted D C H) → D
  disk_after (Ok back) = disk_of back.halves
  disk_after (Err refused) = refused.disk

  -- that the store came back, or why not
  abbrev pub restarted_or_refused : Result (Recovered D C G) (NotRestarted D C H) →
      Result (Recovered D C G) Refusal
  restarted_or_refused (Ok back) = Ok back
  restarted_or_refused (Err refused) = Err refused.refusal

  -- the number of processors or workers is refused before anything is done: what was handed in
  -- comes back
  abbrev pub IsHandedBack : D → Stock C H → Result (Recovered D C G) (NotRestarted D C H) → Type 0
  IsHandedBack disk blanks (Ok back) = ⊥
  IsHandedBack disk blanks (Err refused) = (refused.refusal ≡ refusals.BadPes)
      × (refused.disk ≡ disk) × (refused.blanks ≡ blanks)

-- on any disk, blanks lack of what the bytes of some half want: of the least such kind, and the
-- count is all that are wanted
abbrev pub IsShortOfSome : Blanks → Refusal → Type 0
IsShortOfSome given (refusals.BlanksWanted kind count) = (bytes : List ℕ) × (s : Saved)
    × (found bytes ≡ Open s) × (least_short given (wanted_of s) ≡ Some (kind, count))
IsShortOfSome given _ = Unit {0}

-- ---- one half

-- that the store came back, or why not
abbrev pub reopened_or_refused : {C : Type 0} {H : chares.Ghosts C} →
    Result (Replayed C) (NotReopened C H) → Result (Replayed C) Refusal
reopened_or_refused (Ok back) = Ok back
reopened_or_refused (Err refused) = Err refused.refusal

-- a fault of a half of so many bytes, by how many are left from its record on, is damage at its
-- offset
abbrev pub FaultIs : Half → ℕ → ReadError → Refusal → Type 0
FaultIs half size Memory refusal = refusal ≡ refusals.Memory
FaultIs half size (Damaged fault) refusal = refusal
    ≡ refusals.Damaged half (size - fault.bytes_left)

-- ---- the promises of a restart

module _ {D C : Type 0} {G : disks.Ghosts D} where
  -- The store came back on so many processors, from the bytes of some half, with the objects that
  -- were handed in; its stock keeps what is retired, and the halves go on where it does.
  pub record CameBack (processors : ℕ) (given supplied : Blanks) (back : Recovered D C G)
      : Type 0 where
    pub opens : IsOpenedOn processors back
    pub read : IsReadFrom given back
    pub supplied_are : supplied_in back.store ≡ supplied
    pub keeping : back.store.keeping ≡ for_all true
    pub goes_on : GoesOn (core_of back) back.halves

  -- On an honest disk it is what the files recover to, from the half that is taken. Each crash
  -- keeps it; and where that half is current, events may be appended to it.
  pub record CameFromFiles (given : Blanks) (outcome : CrashBytes) (back : Recovered D C G)
      : Type 0 where
    pub found : recovered outcome
        ≡ Found (core_of back).opening (core_of back).before (core_of back).generation
    pub taken_from : IsTakenFrom given outcome back
    pub keeps : IsKept (core_of back) back.halves
    pub current : back.is_current ≡ true → IsCurrent back.halves

-- No refusal is one that isn't due: BadPes comes only where there aren't so many processors or
-- workers, and BlanksWanted where some half needs more; and the objects come back as blanks.
pub record IsRefused {D C : Type 0} {H : chares.Ghosts C} (are_counts : Bool) (blanks : Stock C H)
    (refused : NotRestarted D C H) : Type 0 where
  pub bad : refused.refusal ≡ refusals.BadPes → are_counts ≡ false
  pub known : is_restart_refusal refused.refusal ≡ true
  pub short : IsShortOfSome (blanks_in blanks) refused.refusal
  pub back : IsSameStock blanks refused.blanks
