-- Engines that are made anew.
use Rattle.std.specs.Prelude.{◌≡◌, ℕ, true}
use Rattle.charmlet_model.specs.declared.half.Half.{Half}
use Rattle.charmlet_model.specs.declared.half.Half.TheVariants.{Zero, One}
use Rattle.charmlet_model.specs.declared.kind.Kind.{Kind}
use Rattle.charmlet_record.specs.Reading.{Kinds}
use Rattle.charmlet_disk.specs.declared.disk.Disk.{Ghosts}
use Rattle.charmlet_disk.specs.Disk.{IsSettled}
use Rattle.charmlet_disk.specs.File.{MayLeave, CrashBytes}
use Rattle.charmlet_halves.specs.Made.{AreClosed}
use Rattle.charmlet_locate.specs.Locations.{is_processor_count}
use Rattle.charmlet_persist.specs.Writes.NewStores.{new_core}
use Rattle.charmlet_engine.specs.Engine.{EngineShown, HasImage, core_of, supplied_of, view_of}
use Rattle.charmlet_engine.specs.Outcomes.{is_lawful_now}

module _ {D : Type 0} where
  -- With these arrays and on this number of processors, of which there may be so many, nothing has
  -- happened; it stands in half 0, and has no object.
  pub record IsNewOn (processors : ℕ) (kinds : Kinds) (engine : EngineShown D) : Type 0 where
    pub processors_are : is_processor_count processors ≡ true
    pub opens : core_of engine ≡ new_core processors kinds
    pub half : engine.half ≡ Zero
    pub blanks : (kind : Kind) → (view_of engine).blanks kind ≡ 0
    pub supplied : (kind : Kind) → supplied_of engine kind ≡ 0

  -- On an honest disk no half was open; now half 0 has its image, and half 1 what it had; both are
  -- settled, and each crash is lawful.
  pub record IsOnNewFiles (G : Ghosts D) (disk : D) (engine : EngineShown D) : Type 0 where
    pub closed : AreClosed (G.file disk)
    pub image : HasImage G engine
    pub other : (G.file engine.disk One).now ≡ (G.file disk One).now
    pub settled : IsSettled (G.file engine.disk)
    pub now : (outcome : CrashBytes) → MayLeave (G.file engine.disk) outcome →
        is_lawful_now (core_of engine) outcome
