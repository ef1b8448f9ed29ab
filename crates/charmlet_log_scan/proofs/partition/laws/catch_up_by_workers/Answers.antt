use Rattle.charmlet_recovery.specs.Bases.{redelivered_all}
use Rattle.charmlet_recovery.specs.Faults.{catch_up_tests}
use Rattle.charmlet_image.specs.Positioned.{items_of}
use Rattle.charmlet_log_scan.specs.Partition.Parts.{caught_up, catch_ups, first_left, is_of_worker, part}
use Rattle.charmlet_log_scan.proofs.PartitionLemmas.CatchUps.{catch-ups-stop}
use Rattle.charmlet_log_scan.proofs.PartitionLemmas.Stops.{earliest-first, none-left}
use Rattle.charmlet_log_scan.proofs.partition.laws.catch_up_by_workers.Goals as goal

pub returns : goal.returns
returns c = λ worker workers manifest records ds falls within rising.
    let tests = catch_up_tests manifest records (items_of ds) in
    let stops = catch-ups-stop manifest records ds falls rising in (
      earliest-first worker workers (first_left tests ds) (λ mine. part mine (redelivered_all manifest records (items_of ds)))
          (λ mine. caught_up manifest (part mine records) (catch_ups mine ds)) within stops,
      (λ none w. stops.whole (none-left tests ds none) (is_of_worker worker w)),
    )
