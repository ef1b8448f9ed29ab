use Rattle.charmlet_log_scan.proofs.PartitionLemmas.Falling.{catch-ups-fall, logs-fall}
use Rattle.charmlet_log_scan.proofs.partition.laws.places_fall.Goals as goal

pub returns : goal.returns
returns c = (catch-ups-fall, logs-fall)
