-- What a crash leaves of an engine's disk.
use Rattle.std.proofs.Common.{arith}
use Rattle.charmlet_model.specs.Core.{Core}
use Rattle.charmlet_disk.specs.declared.disk.Disk.{Ghosts}
use Rattle.charmlet_disk.specs.Disk.{LeavesOnly}
use Rattle.charmlet_disk.specs.File.{MayLeave, CrashBytes}
use Rattle.charmlet_disk.proofs.Moments.{after_that, started, weaker}
use Rattle.charmlet_halves.specs.declared.halves.Halves.{Halves}
use Rattle.charmlet_halves.specs.Halves.{disk_of}
use Rattle.charmlet_persist.specs.Writes.Rest.{HasOldOrSealed, IsKept, keeps_durable}
use Rattle.charmlet_recovery.proofs.Outcomes.{kept_is_lawful}
use Rattle.charmlet_engine.specs.Outcomes.{IsOldOrImage, Onward, is_lawful_now, is_lawful_since}
use Rattle.charmlet_engine.proofs.Onward.{kept_onward, lawful_onward, old_or_image}

module _ {D : Type 0} {G : Ghosts D} where
  -- each crash now is lawful
  pub lawful_now : (core : Core) (halves : Halves D G) → IsKept core halves → (o : CrashBytes) → MayLeave (G.file (disk_of halves)) o → is_lawful_now core o
  lawful_now core halves kept o left = kept_is_lawful core.opening core.before core.history core.durable o (kept.now o left)

  -- where nothing is written
  pub leaves_still : (old new : Core) → Onward old new → (halves : Halves D G) → IsKept old halves →
      ((o : CrashBytes) → G.since (disk_of halves) (G.moment (disk_of halves)) o → MayLeave (G.file (disk_of halves)) o) →
      LeavesOnly G.moment G.since (disk_of halves) (disk_of halves) (is_lawful_since old new)
  leaves_still old new on halves kept only_now =
      started G.moment G.since (disk_of halves) (is_lawful_since old new) (λ o left. kept_onward old new on o (kept.now o (only_now o left)))

module _ {D : Type 0} (G : Ghosts D) where
  -- where a write kept what was durable
  pub leaves_lawful : (old new : Core) → Onward old new → (first last : D) → LeavesOnly G.moment G.since first last (keeps_durable old) → LeavesOnly G.moment G.since first last (is_lawful_since old new)
  leaves_lawful old new on first last leaves = weaker G.moment G.since first last (keeps_durable old) (is_lawful_since old new) leaves (kept_onward old new on)

  -- where a checkpoint was written
  pub leaves_image : (core : Core) (first last : D) → LeavesOnly G.moment G.since first last (HasOldOrSealed core) → LeavesOnly G.moment G.since first last (IsOldOrImage core)
  leaves_image core first last leaves = weaker G.moment G.since first last (HasOldOrSealed core) (IsOldOrImage core) leaves (old_or_image core)

  -- one step more
  pub leaves_more : (old mid new : Core) → Onward old mid → Onward mid new → (first second third : D) →
      LeavesOnly G.moment G.since first second (is_lawful_since old mid) → LeavesOnly G.moment G.since second third (is_lawful_since mid new) → LeavesOnly G.moment G.since first third (is_lawful_since old new)
  leaves_more old mid new on next first second third a b =
      after_that G.moment G.since first second third (is_lawful_since old mid) (is_lawful_since mid new) (is_lawful_since old new) a b
      (λ o lawful. lawful_onward mid new next old.durable old.durable (omega arith) o lawful)
      (λ o lawful. (let less = on.no_fewer in record { kept = lawful.kept; durable_kept = (let enough = lawful.durable_kept in omega arith); none_invented = lawful.none_invented; generation = lawful.generation; is = lawful.is }))
