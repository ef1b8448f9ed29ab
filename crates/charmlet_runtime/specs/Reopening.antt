-- Runtimes that open over stores which came back.
use Rattle.std.specs.Prelude.{◌≡◌, ℕ, Result, Ok, Err}
use Rattle.charmlet_model.specs.Core.{Core}
use Rattle.charmlet_chare.specs.declared.chare.Chare as chares
use Rattle.charmlet_disk.specs.declared.disk.Disk as disks
use Rattle.charmlet_stock.specs.declared.stock.Stock.{Stock}
use Rattle.charmlet_engine.specs.restarted.NotRestarted.{NotRestarted}
use Rattle.charmlet_engine.specs.Engine.{EngineShown, core_of}
use Rattle.charmlet_engine.specs.Reopened.{IsRestart}
use Rattle.charmlet_workers.specs.Runtime.{RuntimeShown, shown_of}

module _ {D C : Type 0} {H : chares.Ghosts C} (G : disks.Ghosts D) (processors : ℕ)
    (blanks : Stock C H) (first : D) (core : Core) where
  -- An engine came back from the first disk, with this core and with all that is promised of one.
  -- The runtime is open over it.
  pub record IsOver (runtime : RuntimeShown) : Type 0 where
    pub engine : EngineShown D
    pub restarted : IsRestart {D = D} {C = C} {H = H} G processors blanks first (Ok engine)
    pub core_is : core_of engine ≡ core
    pub shown : runtime ≡ shown_of core

  -- It is; or no engine came back, with all that is promised where a restart is refused.
  abbrev pub IsRuntimeRestart : Result RuntimeShown (NotRestarted D C H) → Type 0
  IsRuntimeRestart (Ok runtime) = IsOver runtime
  IsRuntimeRestart (Err refused) = IsRestart G processors blanks first (Err refused)
