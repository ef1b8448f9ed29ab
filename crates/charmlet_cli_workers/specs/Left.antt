-- What a run by workers leaves on a disk.
use Rattle.std.specs.Prelude.{◌≡◌, ◌⊎◌, ℕ, List, ◌∷◌, None, Option, Result, Ok, Err, IsOk}
use Rattle.charmlet_model.specs.declared.names.MsgId.{MsgId}
use Rattle.charmlet_model.specs.Core.{Core}
use Rattle.charmlet_model.specs.Sound.{IsSound}
use Rattle.charmlet_model.specs.World.{World}
use Rattle.charmlet_model.specs.Texts.{Text}
use Rattle.charmlet_disk.specs.declared.disk.Disk.{Ghosts}
use Rattle.charmlet_disk.specs.File.{CrashBytes, MayLeave}
use Rattle.charmlet_hub.specs.Hub.{deliveries_in}
use Rattle.charmlet_leases.specs.Passes.Passes.{HaveAllAccepts, HeldPass, IsCurrent}
use Rattle.charmlet_leases.specs.Seats.Woven.{IsWoven}
use Rattle.std.specs.List.{AllByRecursion}
use Rattle.charmlet_script.specs.declared.script.Line.{Line}
use Rattle.charmlet_sequencer.specs.Sequencer.{IsOf, is_lawful}
use Rattle.charmlet_script_output.specs.declared.restarted_line.RestartedLine.{RestartedLine}
use Rattle.charmlet_script_output.specs.Named.{Names}
use Rattle.charmlet_cli_workers.specs.declared.ended.WorkersError.{WorkersError}
use Rattle.charmlet_cli_workers.specs.declared.ended.WorkersError.TheVariants.{NoSeats, Output, NotClosed}
use Rattle.charmlet_cli_workers.specs.Said.{ArePrinted, Clients, Deeds, HaveDone, IsBrokenOff, opening_generation, known_in}

module _ {D : Type 0} (G : Ghosts D) where
  -- If the disk is honest, each crash leaves the world after some of the history of this core, with
  -- all events that are durable in it.
  abbrev pub KeepsDurable : Core → D → Type 0
  KeepsDurable core disk = G.honest disk → (outcome : CrashBytes) → MayLeave (G.file disk) outcome →
      is_lawful core outcome

  -- The disk has a store that opened with this world, after so many events, on so many processors,
  -- and went on since, with a legal history; and this was printed.
  pub record IsLeft (opening : World) (before processors : ℕ) (printed : Core → Type 0) (disk : D)
      : Type 0 where
    pub last : Core
    pub of : IsOf opening before processors last
    pub sound : IsSound last
    pub keeps : KeepsDurable last disk
    pub prints : printed last

  -- A runtime was taken apart with these passes, and with seats that hold these ids. Each pass is
  -- current, and no client without one has accepts. Each delivery is one of these, or was committed
  -- without a seat.
  pub record IsApart (opening : World) (before processors : ℕ) (passes : List HeldPass)
      (lists : List (List MsgId)) (disk : D) : Type 0 where
    pub last : Core
    pub of : IsOf opening before processors last
    pub sound : IsSound last
    pub keeps : KeepsDurable last disk
    pub current : AllByRecursion (λ (held : HeldPass). IsCurrent held last) passes
    pub all : HaveAllAccepts passes last
    pub own : List MsgId
    pub woven : IsWoven (own ∷ lists) (deliveries_in last.history)

-- Lines over an opened runtime end early for want of memory for the workers' seats, where nothing
-- was written, or for a line that couldn't be written.
abbrev pub IsEarly : {T W : Type 0} → (before after : W) → WorkersError T → Type 0
IsEarly before after NoSeats = after ≡ before
IsEarly before after (Output error) = Unit {0}
IsEarly before after _ = ⊥

-- what a run that ended so has printed; one that isn't closed has printed all
abbrev pub Prints : {T X : Type 0} → Result X (WorkersError T) → Option RestartedLine → Clients →
    (Deeds → Type 0) → List Line → (before after : Option Text) → Type 0
Prints (Ok done) restarted clients did lines before after =
    ArePrinted restarted clients did lines before after
Prints (Err (Output error)) restarted clients did lines before after =
    IsBrokenOff restarted clients did lines before after
Prints (Err NotClosed) restarted clients did lines before after =
    ArePrinted restarted clients did lines before after
Prints (Err error) restarted clients did lines before after = Unit {0}

-- the same over a store that has this core in the end, where handlers have these names
abbrev pub PrintsOver : {T X : Type 0} → Result X (WorkersError T) → Option RestartedLine → Core →
    Names → List Line → (before after : Option Text) → Type 0
PrintsOver result restarted core names lines before after =
    Prints result restarted (known_in (opening_generation restarted) core names)
    (HaveDone core) lines before after

-- A runtime is taken apart after a run that ended early for this reason; or it isn't, after all
-- lines, and then the disk doesn't come back.
abbrev pub EndsApart : {D T X : Type 0} → Result X (WorkersError T) → (end : Option D) →
    WorkersError T → Type 0
EndsApart ran end error = (ran ≡ Err error) ⊎ ((error ≡ NotClosed) × (end ≡ None) × IsOk ran)

-- once a runtime is open, a run ends early for one of these three reasons
abbrev pub EndsEarly : {D T W : Type 0} → (end : Option D) → (before after : W) →
    WorkersError T → Type 0
EndsEarly end before after NotClosed = end ≡ None
EndsEarly end before after error = IsEarly before after error
