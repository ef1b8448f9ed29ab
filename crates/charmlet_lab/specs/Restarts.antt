-- Restarts of the laboratory, and the blanks for them.
use Rattle.std.specs.Prelude.{◌≡◌, ◌≢◌, ◌↔◌, ⊤, ℕ, Bool, true, false, List, Option, Result, Ok, Err, IfErr, IfOk}
use Rattle.std.specs.Result.{result_err}
use Rattle.charmlet_model.specs.declared.event.Event.{Event}
use Rattle.charmlet_model.specs.declared.half.Half.{Half}
use Rattle.charmlet_model.specs.declared.half.Half.TheVariants.{Zero, One}
use Rattle.charmlet_model.specs.declared.kind.Kind.{Kind}
use Rattle.charmlet_model.specs.declared.refusal.Refusal.{Refusal}
use Rattle.charmlet_model.specs.declared.refusal.Refusal.TheVariants.{BadPes, BlanksWanted, Device, ImageFull, Memory}
use Rattle.charmlet_model.specs.Core.{Blanks, Core}
use Rattle.charmlet_persist.specs.Snapshot.Showing.{PassesLimit}
use Rattle.charmlet_disk.specs.declared.crash.CrashChoice.{CrashChoice}
use Rattle.charmlet_disk.specs.declared.disk.Disk as disks
use Rattle.charmlet_disk.specs.Crash.{left_by}
use Rattle.charmlet_disk.specs.Disk.{faults_after}
use Rattle.charmlet_disk.specs.File.{MayLeave, clean}
use Rattle.charmlet_locate.specs.Locations.{is_processor_count}
use Rattle.charmlet_recovery.specs.RestartLaws.{IsLeastShort}
use Rattle.charmlet_recovery.specs.Restarts.{engine_refusal}
use Rattle.charmlet_engine.specs.found.Found as finding
use Rattle.charmlet_engine.specs.Found.{IsFoundIn, IsRead}
use Rattle.charmlet_engine.specs.Restart.{bytes_on}
use Rattle.charmlet_engine.specs.Wanted.{blanks_in}
use Rattle.charmlet_engine.specs.Restarted.{IsFound, IsOpenedOn, is_engine_refusal}
use Rattle.charmlet_script.specs.Script.{Contents, processors_of}
use Rattle.charmlet_lab.specs.Judged.{IsGood}
use Rattle.charmlet_lab.specs.Rounds.{arrays_of}

-- the blanks that the found store wants, and none if none was found
abbrev pub wanted_by : Result finding.Found Refusal → Blanks
wanted_by (Ok found) = blanks_in found.wanted
wanted_by (Err refusal) = λ _. 0

-- what the disk gives is known: there was memory, and the device hasn't failed
abbrev pub IsKnown : {X : Type 0} → Result X Refusal → Type 0
IsKnown given = IfErr given (λ refusal. (refusal ≢ Memory) × (refusal ≢ Device))

module _ {D : Type 0} (G : disks.Ghosts D) where
  -- Of an honest disk the crash leaves what its choice says. That is one of the outcomes that a
  -- crash may leave, and all of it is sure. The disk is as honest as before.
  pub record IsCrash (choice : CrashChoice) (old new : D) : Type 0 where
    pub left : G.honest old → (half : Half) →
        G.file new half ≡ clean (left_by choice (G.file old half))
    pub lawful : G.honest old →
        MayLeave (G.file old) (λ half. left_by choice (G.file old half))
    pub honest : (G.honest old → G.honest new) × (G.honest new → G.honest old)

  -- what a reading of this disk finds wants this many blanks of each kind
  pub record AreWanted (disk : D) (wanted : Blanks) : Type 0 where
    pub found : Result finding.Found Refusal
    pub known : IsKnown found
    pub read : IfOk found IsRead
    pub honest : G.honest disk →
        IsFoundIn (G.file disk Zero).now (G.file disk One).now found
    pub are : (kind : Kind) → wanted kind ≡ wanted_by found kind

  -- A restart from this disk on this number of processors, with these blanks, gave this store or
  -- this refusal, and neither for want of memory nor since the device failed. Nothing has happened
  -- in the store since it opened. From an honest disk it has the world that the files recover to,
  -- at their generation, or at the next one if an image was wanted; and it is refused if and only
  -- if the files give a cause, and by that one.
  pub record IsRestart (processors : ℕ) (given : Blanks) (disk : D)
      (back : Result Core Refusal) : Type 0 where
    pub opens : IfOk back (IsOpenedOn processors)
    pub found : G.honest disk → IfOk back (IsFound (bytes_on (G.file disk)))
    pub bad : is_processor_count processors ≡ false → back ≡ Err BadPes
    pub only_bad : back ≡ Err BadPes → is_processor_count processors ≡ false
    pub cause : G.honest disk → is_processor_count processors ≡ true →
        result_err back ≡ engine_refusal given (bytes_on (G.file disk))
    pub refusals : IfErr back (λ refusal. is_engine_refusal refusal ≡ true)
    pub known : IsKnown back

  -- a restart from this disk, with these blanks and on the script's processors, is reported as bad
  -- if and only if it is
  pub record IsJudged (script : Contents) (given : Blanks) (disk : D) (events : List Event)
      (durable : Option ℕ) (bad : Bool) : Type 0 where
    pub back : Result Core Refusal
    pub restart : IsRestart (processors_of script) given disk back
    pub judged : (bad ≡ false) ↔ IsGood (arrays_of script) events durable back

  -- why there is no such restart, or none that is judged: there are too few blanks, of this
  -- kind and no lesser one; an image of the store that came back would pass a limit; the disk has
  -- failed once more; or out of memory
  abbrev pub IsNotTried : Contents → (given wanted : Blanks) → D → Refusal → Type 0
  IsNotTried script given wanted disk (BlanksWanted kind count) =
      IsLeastShort given wanted kind count
  IsNotTried script given wanted disk ImageFull = (core : Core)
      × IsRestart (processors_of script) given disk (Ok core) × PassesLimit core
  IsNotTried script given wanted disk Device = (after : D)
      × (G.faults after ≡ faults_after false (G.faults disk))
  IsNotTried script given wanted disk Memory = ⊤
  IsNotTried script given wanted disk _ = ⊥
