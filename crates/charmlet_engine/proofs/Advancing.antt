-- Engines that come after one another.
use Rattle.std.proofs.Common.{◌≡◌, refl, sym, subst}
use Rattle.charmlet_model.specs.Core.{Core}
use Rattle.charmlet_disk.specs.declared.disk.Disk.{Ghosts}
use Rattle.charmlet_disk.specs.Disk.{LeavesOnly}
use Rattle.charmlet_disk.specs.File.{MayLeave, CrashBytes}
use Rattle.charmlet_halves.specs.declared.halves.Halves.{Halves}
use Rattle.charmlet_halves.specs.Halves.{disk_of}
use Rattle.charmlet_history.specs.Kept.{core_in}
use Rattle.charmlet_persist.specs.Writes.Rest.{keeps_durable}
use Rattle.charmlet_store.specs.Store.{StoreShown}
use Rattle.charmlet_engine.specs.Advances.{Advances}
use Rattle.charmlet_engine.specs.Engine.{EngineShown, core_of}
use Rattle.charmlet_engine.specs.Outcomes.{Onward, is_lawful_since}
use Rattle.charmlet_engine.specs.Together.{AreTied, shown_by}
use Rattle.charmlet_engine.proofs.Lawful.{leaves_lawful, leaves_more, leaves_still}
use Rattle.charmlet_engine.proofs.Onward.{onward_after, onward_self}

module _ {D : Type 0} (G : Ghosts D) where
  -- where neither the halves nor the core is another one
  pub advances_still : (old new : StoreShown) (halves : Halves D G) → AreTied old halves → core_in new.history ≡ core_in old.history →
      ((honest : G.honest (disk_of halves)) → (o : CrashBytes) → G.since (disk_of halves) (G.moment (disk_of halves)) o → MayLeave (G.file (disk_of halves)) o) →
      Advances G (shown_by old halves) (shown_by new halves)
  advances_still old new halves tied same only_now =
      let before = core_in old.history in
      record {
        onward = subst (Onward before) (sym same) (onward_self before);
        any_moment = λ honest.
            subst (λ (core : Core). LeavesOnly G.moment G.since (disk_of halves) (disk_of halves) (is_lawful_since before core)) (sym same)
            (leaves_still {G = G} before before (onward_self before) halves (tied.keeps honest) (only_now honest));
        honest = ((λ h. h), (λ h. h));
      }

  -- where the history was written
  pub advances_written : (old new : StoreShown) (halves next : Halves D G) → Onward (core_in old.history) (core_in new.history) →
      (G.honest (disk_of halves) → LeavesOnly G.moment G.since (disk_of halves) (disk_of next) (keeps_durable (core_in old.history))) →
      (G.honest (disk_of halves) → G.honest (disk_of next)) × (G.honest (disk_of next) → G.honest (disk_of halves)) →
      (shown : EngineShown D) → shown_by old halves ≡ shown → Advances G shown (shown_by new next)
  advances_written old new halves next onward leaves honest shown view_is =
      let before = core_in old.history in
      let after = core_in new.history in
      let advances : Advances G (shown_by old halves) (shown_by new next) = record {
        onward = onward;
        any_moment = λ h. leaves_lawful G before after onward (disk_of halves) (disk_of next) (leaves h);
        honest = honest;
      } in
      subst (λ (e : EngineShown D). Advances G e (shown_by new next)) view_is advances

  -- and where nothing at all is
  pub advances_self : (store : StoreShown) (halves : Halves D G) → AreTied store halves →
      ((honest : G.honest (disk_of halves)) → (o : CrashBytes) → G.since (disk_of halves) (G.moment (disk_of halves)) o → MayLeave (G.file (disk_of halves)) o) →
      (shown : EngineShown D) → shown_by store halves ≡ shown → Advances G shown shown
  advances_self store halves tied only_now shown view_is =
      subst (λ (e : EngineShown D). Advances G e e) view_is (advances_still store store halves tied refl only_now)

  -- one after another
  pub advances_after : (first mid last : EngineShown D) → Advances G first mid → Advances G mid last → Advances G first last
  advances_after first mid last a b = record {
    onward = onward_after (core_of first) (core_of mid) (core_of last) a.onward b.onward;
    any_moment = λ honest. leaves_more G (core_of first) (core_of mid) (core_of last) a.onward b.onward first.disk mid.disk last.disk (a.any_moment honest) (b.any_moment (a.honest.0 honest));
    honest = ((λ h. b.honest.0 (a.honest.0 h)), (λ h. a.honest.1 (b.honest.1 h)));
  }
