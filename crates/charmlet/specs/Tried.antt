-- What the laboratory's tasks answer.
use Rattle.std.specs.Prelude.{◌≡◌, ℕ, true, Bool, List, Option, Result, IfErr, IfOk}
use Rattle.charmlet_model.specs.declared.event.Event.{Event}
use Rattle.charmlet_model.specs.declared.refusal.Refusal.{Refusal}
use Rattle.charmlet_model.specs.Core.{Blanks}
use Rattle.charmlet_disk.specs.declared.disk.Disk as disks
use Rattle.charmlet_locate.specs.Locations.{is_processor_count}
use Rattle.charmlet_recovery.specs.RestartLaws.{IsEnough}
use Rattle.charmlet_script.specs.Script.{Contents, processors_of}
use Rattle.charmlet_lab.specs.declared.round.Round.{Round}
use Rattle.charmlet_lab.specs.Lines.{IsRunOf}
use Rattle.charmlet_lab.specs.Restarts.{IsJudged, IsNotTried}
use Rattle.charmlet_lab.specs.Rounds.{IsNotRun, IsRound, arrays_of}

module _ {D : Type 0} (G : disks.Ghosts D) where
  -- a run of a script on a disk, or why there is none, with some blanks
  pub record IsRunTried (script : Contents) (disk : D) (answer : Result (Round D) Refusal) :
      Type 0 where
    pub ok : IfOk answer (IsRound G (arrays_of script) disk)
    pub ran : IfOk answer (IsRunOf script)
    pub processors : IfOk answer (λ round. is_processor_count (processors_of script) ≡ true)
    pub err : IfErr answer (λ refusal. (given : Blanks) × IsNotRun G given script disk refusal)

  -- whether a restart after a run's crash is bad, or why it wasn't tried, with some blanks
  pub record IsRestartTried (script : Contents) (wanted : Blanks) (disk : D) (events : List Event)
      (durable : Option ℕ) (answer : Result Bool Refusal) : Type 0 where
    pub ok : IfOk answer (λ bad. (given : Blanks) × IsEnough given wanted
        × IsJudged G script given disk events durable bad)
    pub err : IfErr answer (λ refusal. (given : Blanks)
        × IsNotTried G script given wanted disk refusal)
