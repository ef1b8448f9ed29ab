use Rattle.charmlet_log_scan.proofs.PartitionLemmas.Dispatched.{dispatched-are-made, lack-is-fault}
use Rattle.charmlet_log_scan.proofs.partition.laws.lack_is_fault.Goals as goal

pub returns : goal.returns
returns c = record { made = dispatched-are-made; lack = lack-is-fault }
