use Rattle.std.proofs.Common.{ap}
use Rattle.charmlet_recovery.specs.Faults.{is_caught_up}
use Rattle.charmlet_recovery.proofs.CatchUps.{caught_up-own}
use Rattle.charmlet_recovery.proofs.laws.catch_up_is_own.Goals as goal

pub returns : goal.returns
returns c = record {
  records = caught_up-own;
  tests = λ manifest records earlier d. ap (λ r. is_caught_up manifest r d) (caught_up-own manifest records earlier d.message.to);
}
