-- What a run of a script is, and what it leaves on the disk.
use Rattle.std.specs.Prelude.{◌≡◌, ◌⊎◌, IsTrue, Option}
use Rattle.charmlet_model.specs.Core.{Core}
use Rattle.charmlet_model.specs.Texts.{Text}
use Rattle.charmlet_locate.specs.Locations.{is_processor_count}
use Rattle.charmlet_recovery.specs.Outcomes.{IsLawful}
use Rattle.charmlet_recovery.specs.Recovered.{Nothing, recovered}
use Rattle.charmlet_disk.specs.declared.disk.Disk as disks
use Rattle.charmlet_disk.specs.Disk.{LeavesOnly}
use Rattle.charmlet_disk.specs.File.{MayLeave, CrashBytes}
use Rattle.charmlet_engine.specs.Outcomes.{is_lawful_now}
use Rattle.charmlet_script.specs.Script.{Contents, processors_of}
use Rattle.charmlet_script_output.specs.Ledgers.{Ledger, kinds_of}
use Rattle.charmlet_script_output.specs.Named.{named_by}
use Rattle.charmlet_cli.specs.Lines.{AreRun, BreakOff, history_opening}
use Rattle.charmlet_script_output.specs.Created.{IsCreated}

-- the files recover to nothing
abbrev pub IsNothing : CrashBytes → Type 0
IsNothing outcome = recovered outcome ≡ Nothing

-- the files are what there was earlier, or recover to the world after some of the history
abbrev pub IsEarlierOrLawful : (earlier : CrashBytes → Type 0) → Core → CrashBytes → Type 0
IsEarlierOrLawful earlier core outcome = earlier outcome
    ⊎ IsLawful core.opening core.before core.history 0 outcome

module _ {D : Type 0} (G : disks.Ghosts D) where
  -- The disk at the end is the last store's. If the first one was honest, each crash since the
  -- beginning leaves what there was earlier, or the world after some of the run, and each from now
  -- on has all durable events.
  pub record Stands (earlier : CrashBytes → Type 0) (first end : D) (last : Ledger D) : Type 0 where
    pub disk : last.disk ≡ end
    pub any_moment : G.honest first →
        LeavesOnly G.moment G.since first end (IsEarlierOrLawful earlier last.store.core)
    pub now : G.honest first → (outcome : CrashBytes) → MayLeave (G.file end) outcome →
        is_lawful_now last.store.core outcome

  -- there are 1 to 64 processors, a store is made, each line is run in its order and prints its
  -- texts, and the last store stands on the disk
  abbrev pub IsRun : (first end : D) → Contents → (before after : Option Text) → Type 0
  IsRun first end script before after =
      IsTrue (is_processor_count (processors_of script)) × (made : D)
      × IsCreated G (kinds_of script) first made
      × (last : Ledger D) × AreRun G (named_by script.handlers) last (history_opening script made)
      script.lines last before after × Stands IsNothing first end last

  -- a store is made, some of its lines are run, a beginning of their texts is printed, and the
  -- store after these lines stands on the disk
  abbrev pub IsCutOff : (first end : D) → Contents → (before after : Option Text) → Type 0
  IsCutOff first end script before after =
      IsTrue (is_processor_count (processors_of script)) × (made : D)
      × IsCreated G (kinds_of script) first made
      × (last : Ledger D) × BreakOff G (named_by script.handlers)
      (history_opening script made) script.lines last before after × Stands IsNothing first end last
