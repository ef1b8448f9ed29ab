-- The loop over a catch-up list.
use Rattle.std.proofs.Common.{◌≡◌, ℕ, List, drop}
use Rattle.charmlet_model.specs.declared.logged.CatchUpEntry.{CatchUpEntry}
use Rattle.charmlet_model.specs.World.{World}
use Rattle.charmlet_recovery.specs.Bases.{redelivered_all}
use Rattle.charmlet_recovery.specs.Faults.{catch_up_tests, first_failure}
use Rattle.charmlet_reference.proofs.RecoveryLemmas.Failures.{failure_from}

-- once so many deliveries are made, the others are tested and made in this world
pub record IsUnderWay (opening w : World) (place : ℕ) (ds : List CatchUpEntry) : Type 0 where
  pub fault : failure_from place (catch_up_tests w.manifest w.records (drop place ds)) ≡ first_failure (catch_up_tests opening.manifest opening.records ds)
  pub made : record w { records = redelivered_all w.manifest w.records (drop place ds) } ≡ record opening { records = redelivered_all opening.manifest opening.records ds }
