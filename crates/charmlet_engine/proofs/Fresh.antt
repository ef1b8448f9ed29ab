-- What a crash leaves of a disk on which a store is made.
use Rattle.std.proofs.Common.{◌≢◌, inl, inr, ⊎_elim, subst, sym, Result}
use Rattle.charmlet_model.specs.declared.half.Half.TheVariants.{Zero, One}
use Rattle.charmlet_model.specs.declared.refusal.Refusal.{Refusal}
use Rattle.charmlet_model.specs.declared.refusal.Refusal.TheVariants.{Device}
use Rattle.charmlet_model.specs.KindVersion.{AreNewest}
use Rattle.charmlet_model.specs.Fit.{IsFit}
use Rattle.charmlet_model.specs.Sound.{new_world}
use Rattle.charmlet_disk.specs.declared.disk.Disk.{Ghosts}
use Rattle.charmlet_disk.specs.Calls.{IsOnlyRead}
use Rattle.charmlet_disk.specs.Disk.{IsSettled, LeavesOnly}
use Rattle.charmlet_disk.specs.File.{MayLeave, CrashBytes}
use Rattle.charmlet_disk.proofs.Moments.{weaker}
use Rattle.charmlet_image.specs.Spelled.{IsClosed}
use Rattle.charmlet_record.specs.Reading.{Kinds}
use Rattle.charmlet_recovery.proofs.Stored.{stored_is_recovered}
use Rattle.charmlet_recovery.proofs.Writing.{creations_are_stored}
use Rattle.charmlet_halves.specs.Made.{AreClosed, LeavesNew}
use Rattle.charmlet_halves.proofs.NewHalves.{if_err}
use Rattle.charmlet_halves.proofs.Standing.{is_left}
use Rattle.charmlet_persist.specs.Writes.NewStores.{NothingOrNewWorld}
use Rattle.charmlet_engine.specs.Outcomes.{IsNothingOrNew}

recovers : (kinds : Kinds) (o : CrashBytes) → NothingOrNewWorld kinds o → IsNothingOrNew kinds o
recovers kinds o so = ⊎_elim (λ none. inl none) (λ stores. inr (stored_is_recovered o (new_world kinds) 0 1 stores)) so

module _ {D : Type 0} (G : Ghosts D) (kinds : Kinds) (old new : D) where
  -- what the files store is recovered
  pub leaves_new : LeavesOnly G.moment G.since old new (NothingOrNewWorld kinds) → LeavesOnly G.moment G.since old new (IsNothingOrNew kinds)
  leaves_new leaves = weaker G.moment G.since old new (NothingOrNewWorld kinds) (IsNothingOrNew kinds) leaves (recovers kinds)

  -- where the disk was only read, there is nothing
  pub leaves_nothing : {X : Type 0} → IsFit (new_world kinds) → AreNewest kinds → IsSettled (G.file old) → IsOnlyRead G old new → (answer : Result X Refusal) → LeavesNew G (AreClosed (G.file old)) (IsNothingOrNew kinds) old new answer
  leaves_nothing fit newest settled read answer = record {
    any_moment = λ closed.
        weaker G.moment G.since old new (MayLeave (G.file old)) (IsNothingOrNew kinds) read.any_moment
        (λ o left.
        let same = is_left (G.file old) settled o left in
        recovers kinds o (creations_are_stored o kinds fit newest (subst IsClosed (sym (same One)) closed.one) (inl (subst IsClosed (sym (same Zero)) closed.zero))));
    open_kept = λ any. read.any_moment;
    unwritten = if_err (λ refusal. refusal ≢ Device → IsOnlyRead G old new) answer (λ refusal other. read);
  }
