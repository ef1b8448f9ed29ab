use Rattle.charmlet_log_scan.proofs.PartitionLemmas.Giving.{is-new, stays-given}
use Rattle.charmlet_log_scan.proofs.partition.laws.scan_knows_ids.Goals as goal

pub returns : goal.returns
returns c = λ manifest scan given. (λ before l h. stays-given manifest scan before l given h, λ id new. is-new scan scan.pending id given new)
