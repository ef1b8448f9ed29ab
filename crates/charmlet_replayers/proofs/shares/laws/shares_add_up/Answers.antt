use Rattle.charmlet_replayers.proofs.SharesLemmas.AddUp.{catch-ups-add-up, records-add-up, tasks-add-up}
use Rattle.charmlet_replayers.proofs.SharesLemmas.Sums.{together-is-sum}
use Rattle.charmlet_replayers.proofs.shares.laws.shares_add_up.Goals as goal

pub returns : goal.returns
returns c = record { sum = together-is-sum; records = records-add-up; catch_ups = catch-ups-add-up; tasks = tasks-add-up }
