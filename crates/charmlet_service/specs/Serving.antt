-- Runtimes that are made for their clients, and taken apart after them.
use Rattle.std.specs.Prelude.{◌≡◌, ◌⊎◌, ◌↔◌, ℕ, false, if◌then◌else◌, Result, Ok, Err, IfErr, IfOk}
use Rattle.charmlet_model.specs.declared.refusal.Refusal.TheVariants as refusals
use Rattle.charmlet_record.specs.Reading.{Kinds}
use Rattle.charmlet_chare.specs.declared.chare.Chare as chares
use Rattle.charmlet_disk.specs.declared.disk.Disk as disks
use Rattle.charmlet_disk.specs.Calls.{AfterCall}
use Rattle.charmlet_disk.specs.File.{CrashBytes, MayLeave}
use Rattle.charmlet_halves.specs.declared.opened.Refused.{Refused}
use Rattle.charmlet_halves.specs.Answers.{is_no_failure}
use Rattle.charmlet_halves.specs.Made.{AreClosed, IsCause, LeavesNew}
use Rattle.charmlet_locate.specs.Locations.{is_processor_count}
use Rattle.charmlet_persist.specs.Writes.NewStores.{IsCreationRefusal}
use Rattle.charmlet_sequencer.specs.Sequencer.{is_lawful}
use Rattle.charmlet_stock.specs.declared.stock.Stock.{Stock}
use Rattle.charmlet_workers.specs.Runtime.{RuntimeShown, WasTrue, shown_of}
use Rattle.charmlet_engine.specs.restarted.NotRestarted.{NotRestarted}
use Rattle.charmlet_engine.specs.Created.{IsNewOn, IsOnNewFiles}
use Rattle.charmlet_engine.specs.Engine.{EngineShown, core_of, disk_after, engine_or_refusal}
use Rattle.charmlet_engine.specs.Outcomes.{IsNothingOrNew}
use Rattle.charmlet_engine.specs.Reopened.{IsRestart}
use Rattle.charmlet_service.specs.declared.run.Ran.{Ran}

module _ {D : Type 0} (G : disks.Ghosts D) where
  -- All that is promised of a creation on the first disk, with these arrays and on so many
  -- processors: the clauses of `RuntimeBuilder::create`, one by one.
  pub record IsCreation (processors : ℕ) (kinds : Kinds) (first : D)
      (result : Result (EngineShown D) (Refused D)) : Type 0 where
    pub ok : IfOk result (IsNewOn processors kinds)
    pub files : G.honest first → IfOk result (IsOnNewFiles G first)
    pub bad : IfErr result (λ refused. (refused.refusal ≡ refusals.BadPes)
        ↔ (is_processor_count processors ≡ false))
    pub err : IfErr result (λ refused. IsCreationRefusal refused.refusal)
    pub cause : G.honest first → IfErr result (λ refused.
        IsCause (G.file first) refused.refusal)
    pub leaves : G.honest first → LeavesNew G (AreClosed (G.file first)) (IsNothingOrNew kinds)
        first (disk_after result) (engine_or_refusal result)
    pub after : AfterCall G first (disk_after result) (is_no_failure (engine_or_refusal result))

  -- A runtime opened so, and this disk is what is left of it. It has a store that went on from
  -- there: if the disk is honest, each crash leaves the world after some of its history, with all
  -- durable events among it. And it is honest if the first one was.
  pub record IsRunOver (was_honest : Type 0) (shown : RuntimeShown) (last : D) : Type 0 where
    pub left : WasTrue shown (λ core. G.honest last → (outcome : CrashBytes) →
        MayLeave (G.file last) outcome → is_lawful core outcome)
    pub honest : was_honest → G.honest last

  -- No store was tried: there aren't 1 to 64 processors, or memory lacks for the runtime. The disk
  -- is as it was.
  pub record IsUntried (processors : ℕ) (first : D) (refused : Refused D) : Type 0 where
    pub why : refused.refusal
        ≡ (if is_processor_count processors then refusals.Memory else refusals.BadPes)
    pub disk : refused.disk ≡ first

  -- A store was made, with all that is promised of one, and a runtime ran over it; or none was
  -- tried; or none was made, with all that is promised where a creation is refused.
  abbrev pub IsNewRun : {A : Type 0} → (processors : ℕ) → Kinds → (first : D) →
      Result (Ran D A) (Refused D) → Type 0
  IsNewRun processors kinds first (Ok ran) = (engine : EngineShown D)
      × IsCreation processors kinds first (Ok engine)
      × IsRunOver (G.honest first) (shown_of (core_of engine)) ran.disk
  IsNewRun processors kinds first (Err refused) = IsUntried processors first refused
      ⊎ IsCreation processors kinds first (Err refused)

module _ {D C : Type 0} {H : chares.Ghosts C} (G : disks.Ghosts D) where
  -- A store came back, with all that is promised of one, and a runtime ran over it; or none came
  -- back, with all that is promised where a restart is refused.
  abbrev pub IsRestartedRun : {A : Type 0} → (processors : ℕ) → Stock C H → (first : D) →
      Result (Ran D A) (NotRestarted D C H) → Type 0
  IsRestartedRun processors blanks first (Ok ran) = (engine : EngineShown D)
      × IsRestart {D = D} {C = C} {H = H} G processors blanks first (Ok engine)
      × IsRunOver G (G.honest first) (shown_of (core_of engine)) ran.disk
  IsRestartedRun processors blanks first (Err refused) =
      IsRestart G processors blanks first (Err refused)
