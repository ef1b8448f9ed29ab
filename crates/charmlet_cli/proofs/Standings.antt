-- What stands on a disk on which a store was made and run.
use Rattle.std.proofs.Common.{◌≡◌, ◌⊎◌, inl, inr, ⊎_elim, ℕ, List, refl, sym, ap, subst, ◌∙◌, arith}
use Rattle.charmlet_model.specs.declared.kind_version.KindVersion.{KindVersion}
use Rattle.charmlet_model.specs.Core.{Core}
use Rattle.charmlet_model.specs.Sound.{new_world}
use Rattle.charmlet_model.specs.World.{World}
use Rattle.charmlet_disk.specs.declared.disk.Disk as disks
use Rattle.charmlet_disk.specs.Disk.{LeavesOnly}
use Rattle.charmlet_disk.specs.File.{MayLeave, CrashBytes}
use Rattle.charmlet_disk.proofs.Moments.{after_that}
use Rattle.charmlet_persist.specs.Writes.NewStores.{new_core}
use Rattle.charmlet_recovery.specs.Recovered.{Found}
use Rattle.charmlet_engine.specs.Advances.{Advances}
use Rattle.charmlet_engine.specs.Engine.{EngineShown, core_of}
use Rattle.charmlet_engine.specs.Outcomes.{IsNothingOrNew, Onward, is_lawful_now, is_lawful_since}
use Rattle.charmlet_script_output.specs.Ledgers.{ledger_in}
use Rattle.charmlet_cli.specs.Run.{IsEarlierOrLawful, IsNothing, Stands}

-- a new store that went on to this one
module _ (manifest : List (ℕ × KindVersion)) (processors : ℕ) (old new : Core) (opens : old ≡ new_core processors manifest) (on : Onward old new) where
  opening : new.opening ≡ new_world manifest
  opening = on.opening ∙ ap (λ (core : Core). core.opening) opens

  none_before : new.before ≡ 0
  none_before = on.before ∙ ap (λ (core : Core). core.before) opens

  from_new : (o : CrashBytes) → IsNothingOrNew manifest o → IsEarlierOrLawful IsNothing new o
  from_new o so = ⊎_elim (λ none. inl none) (λ found. inr (record {
    kept = 0;
    durable_kept = omega arith;
    none_invented = omega arith;
    generation = 1;
    is = found ∙ ap (λ (w : World). Found w 0 1) (sym opening) ∙ ap (λ (n : ℕ). Found new.opening n 1) (sym (omega (arith, none_before)));
  })) so

-- what a run leaves, whatever there was earlier
from_lawful : (earlier : CrashBytes → Type 0) (old new : Core) (o : CrashBytes) → is_lawful_since old new o → IsEarlierOrLawful earlier new o
from_lawful earlier old new o lawful = inr (record {
  kept = lawful.kept;
  durable_kept = omega arith;
  none_invented = lawful.none_invented;
  generation = lawful.generation;
  is = lawful.is;
})

module _ {D : Type 0} (G : disks.Ghosts D) where
  -- on an honest disk each crash now leaves the world after some of the history, with all durable
  -- events among it
  abbrev pub IsLawfulDisk : EngineShown D → Type 0
  IsLawfulDisk engine = G.honest engine.disk → (o : CrashBytes) → MayLeave (G.file engine.disk) o → is_lawful_now (core_of engine) o

  -- what it stands on is the disk at the end
  pub stands_after : (earlier before : CrashBytes → Type 0) (disk end : D) (first last : EngineShown D) → IsLawfulDisk last → Advances G first last → (G.honest disk → G.honest first.disk) →
      (G.honest disk → LeavesOnly G.moment G.since disk first.disk before) → (G.honest disk → (o : CrashBytes) → before o → IsEarlierOrLawful earlier (core_of last) o) → end ≡ last.disk →
      Stands G earlier disk end (ledger_in last)
  stands_after earlier before disk end first last lawful advances honest leaves goes is =
      subst (λ (d : D). Stands G earlier disk d (ledger_in last)) (sym is) (record {
        disk = refl;
        any_moment = λ still.
            after_that G.moment G.since disk first.disk last.disk before (is_lawful_since (core_of first) (core_of last)) (IsEarlierOrLawful earlier (core_of last))
            (leaves still) (advances.any_moment (honest still)) (goes still) (from_lawful earlier (core_of first) (core_of last));
        now = λ still. lawful (advances.honest.0 (honest still));
      })

  -- of a new store
  pub stands : (manifest : List (ℕ × KindVersion)) (processors : ℕ) (disk end : D) (first last : EngineShown D) → core_of first ≡ new_core processors manifest → IsLawfulDisk last → Advances G first last →
      (G.honest disk → G.honest first.disk) → (G.honest disk → LeavesOnly G.moment G.since disk first.disk (IsNothingOrNew manifest)) → end ≡ last.disk → Stands G IsNothing disk end (ledger_in last)
  stands manifest processors disk end first last opens lawful advances honest leaves is =
      stands_after IsNothing (IsNothingOrNew manifest) disk end first last lawful advances honest leaves
      (λ still. from_new manifest processors (core_of first) (core_of last) opens advances.onward) is

  -- and it is as honest as the first one was
  pub stays_honest : (disk end : D) (first last : EngineShown D) → (G.honest disk → G.honest first.disk) × (G.honest first.disk → G.honest disk) → Advances G first last → end ≡ last.disk →
      (G.honest disk → G.honest end) × (G.honest end → G.honest disk)
  stays_honest disk end first last honest advances is = (
    (λ h. subst G.honest (sym is) (advances.honest.0 (honest.0 h))),
    (λ h. honest.1 (advances.honest.1 (subst G.honest is h))),
  )
