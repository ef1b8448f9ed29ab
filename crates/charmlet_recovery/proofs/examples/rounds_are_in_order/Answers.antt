use Rattle.std.proofs.Common.{refl}
use Rattle.charmlet_recovery.proofs.examples.rounds_are_in_order.Goals as goal

pub returns : goal.returns
returns c = record { catch_up = refl; pending = refl; later_place = refl }
