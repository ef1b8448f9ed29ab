use Rattle.std.proofs.Common.{subst}
use Rattle.charmlet_disk.specs.File.{MayBeLeft}
use Rattle.charmlet_disk.proofs.Tears.{clean_left}
use Rattle.charmlet_disk.proofs.laws.settled_disks_leave_what_is_read.Goals as goal

pub returns : goal.returns
returns c = λ files outcome settled left half. clean_left (files half).now (outcome half) (subst (λ f. MayBeLeft f (outcome half)) (settled half) (left half))
